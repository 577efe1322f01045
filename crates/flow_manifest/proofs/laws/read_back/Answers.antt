use Rattle.std.proofs.Common.{◌≡◌, Result, Ok, Err, IfOk, IfErr, ◌∙◌}
use Rattle.flow_manifest.specs.declared.error.ManifestError.{ManifestError}
use Rattle.flow_manifest.specs.declared.error.ManifestError.TheVariants.{OutOfMemory}
use Rattle.flow_manifest.specs.declared.manifest.Manifest.{Manifest}
use Rattle.flow_manifest.specs.Manifest.{IsBody, format_2}
use Rattle.flow_manifest.specs.Fault.{IsDecoded}
use Rattle.flow_manifest.proofs.laws.read_back.Goals as goal

if_ok : (result : Result Manifest ManifestError) (m : Manifest) → IsDecoded result m → IfOk result (λ n. n ≡ m)
if_ok (Ok n) m is = is
if_ok (Err e) m is = tt

if_err : (result : Result Manifest ManifestError) (m : Manifest) → IsDecoded result m
    → IfErr result (λ e. e ≡ OutOfMemory)
if_err (Ok n) m is = tt
if_err (Err e) m is = is

pub returns-clause-same : goal.returns-clause-same
returns-clause-same c =
    let body : IsBody c.deref.result.now c.args.manifest.now =
    record {
      valid = c.requires;
      format = format_2;
      said = tt;
      is = c.deref.ensures.value
          ∙ c.in_ok-octets.ensures;
    } in
    if_ok c.decode.result c.args.manifest.now (c.decode.ensures.only c.args.manifest.now body)

pub returns-clause-only_memory : goal.returns-clause-only_memory
returns-clause-only_memory c =
    let body : IsBody c.deref.result.now c.args.manifest.now =
    record {
      valid = c.requires;
      format = format_2;
      said = tt;
      is = c.deref.ensures.value
          ∙ c.in_ok-octets.ensures;
    } in
    if_err c.decode.result c.args.manifest.now (c.decode.ensures.only c.args.manifest.now body)
