use Rattle.std.proofs.Common.{◌≡◌, ◌≢◌, ◌+◌, ℕ, List, Option, Some, IfErr, take, drop, get_or, length, sym, ◌∙◌, ap, subst, arith}
use Rattle.std.specs.Prelude.{IfSome}
use Rattle.std.specs.List.{AllByRecursion}
use Rattle.std.proofs.lemmas.List.{length-take-le}
use Rattle.flow_manifest.specs.declared.following.JobKind.{JobKind}
use Rattle.flow_manifest.specs.declared.manifest.Entry.{Entry}
use Rattle.flow_manifest.specs.declared.manifest.Manifest.{Manifest}
use Rattle.flow_manifest.specs.Following.{count_before, installed_manifest, made_entry, no_entry, source_of, sources_of}
use Rattle.flow_manifest.proofs.ManifestAfterInstall.{behind_short}
use Rattle.flow_model.specs.Jobs.{staged_of}
use Rattle.flow_archive.specs.Installing.{cut_in, IsNotInstalled, MayInstall}
use Rattle.flow_archive.specs.UnderWay.{frozen_staged_in, frozen_staged, staged_file, FrozenStaged, RunningJob}
use Rattle.flow_archive.specs.declared.refusal.ArchiveError.TheVariants.{OutOfMemory}
use Rattle.flow_archive.proofs.Answering.{err_is}
use Rattle.flow_archive.proofs.Installed.{made_long}
use Rattle.flow_archive.proofs.Leaving.{stands_behind}
use Rattle.flow_archive.proofs.install.to_install.Goals as goal

pub returns-in-None-clause-refused : goal.returns-in-None-clause-refused
returns-in-None-clause-refused g c =
    let S = g.S.SealedFile in
    let r : RunningJob = c.in-Some.job in (
      r,
      c.in-Some.is,
      sym (ap (λ (x : RunningJob). x.staged) c.job.view_is)
          ∙ ap (frozen_staged_in S.number S.size S.honest S.octets) c.in-None.is,
    )

pub installed_manifest-requires-clause-unnamed : goal.installed_manifest-requires-clause-unnamed
installed_manifest-requires-clause-unnamed g c =
    let S = g.S.SealedFile in
    let r : RunningJob = c.in-Some.job in
    let raw = c.in-Some-staged.file in
    let f : FrozenStaged = frozen_staged S.number S.size S.honest S.octets raw in
    let staged_is : r.staged ≡ Some f = sym (ap (λ (x : RunningJob). x.staged) c.job.view_is)
    ∙ ap (frozen_staged_in S.number S.size S.honest S.octets) c.in-Some-staged.is in
    let may : MayInstall c.args.now.now c.args.next r f =
    subst (λ (x : Option FrozenStaged). IfSome x (MayInstall c.args.now.now c.args.next r)) staged_is
    (subst (λ (j : Option RunningJob). IfSome j (λ r. IfSome r.staged (MayInstall c.args.now.now c.args.next r))) c.in-Some.is
    c.requires.staged) in
    subst (λ (n : ℕ). AllByRecursion (λ (e : Entry). e.file ≢ n) c.args.now.now.entries) (sym c.file.ensures) may.unnamed

pub returns-in_err-manifest-clause-refused : goal.returns-in_err-manifest-clause-refused
returns-in_err-manifest-clause-refused g c =
    let S = g.S.SealedFile in
    let r : RunningJob = c.in-Some.job in
    let raw = c.in-Some-staged.file in
    let f : FrozenStaged = frozen_staged S.number S.size S.honest S.octets raw in
    let staged_is : r.staged ≡ Some f = sym (ap (λ (x : RunningJob). x.staged) c.job.view_is)
    ∙ ap (frozen_staged_in S.number S.size S.honest S.octets) c.in-Some-staged.is in
    err_is c.from_residual.result OutOfMemory (λ x. IfErr x (IsNotInstalled c.args.job.now)) c.from_residual.ensures.1
    (r, f, c.in-Some.is, staged_is)

pub returns-in_err-body-clause-refused : goal.returns-in_err-body-clause-refused
returns-in_err-body-clause-refused g c =
    let S = g.S.SealedFile in
    let r : RunningJob = c.in-Some.job in
    let raw = c.in-Some-staged.file in
    let f : FrozenStaged = frozen_staged S.number S.size S.honest S.octets raw in
    let staged_is : r.staged ≡ Some f = sym (ap (λ (x : RunningJob). x.staged) c.job.view_is)
    ∙ ap (frozen_staged_in S.number S.size S.honest S.octets) c.in-Some-staged.is in
    err_is c.from_residual-in_err-body.result OutOfMemory (λ x. IfErr x (IsNotInstalled c.args.job.now))
    c.from_residual-in_err-body.ensures.1 (r, f, c.in-Some.is, staged_is)

pub returns-clause-made : goal.returns-clause-made
returns-clause-made g c =
    let S = g.S.SealedFile in
    let r : RunningJob = c.in-Some.job in
    let raw = c.in-Some-staged.file in
    let f : FrozenStaged = frozen_staged S.number S.size S.honest S.octets raw in
    let staged_is : r.staged ≡ Some f = sym (ap (λ (x : RunningJob). x.staged) c.job.view_is)
    ∙ ap (frozen_staged_in S.number S.size S.honest S.octets) c.in-Some-staged.is in
    let may : MayInstall c.args.now.now c.args.next r f =
    subst (λ (x : Option FrozenStaged). IfSome x (MayInstall c.args.now.now c.args.next r)) staged_is
    (subst (λ (j : Option RunningJob). IfSome j (λ r. IfSome r.staged (MayInstall c.args.now.now c.args.next r))) c.in-Some.is
    c.requires.staged) in
    let m : Manifest = c.args.now.now in
    let kind = ap (λ (x : RunningJob). x.kind) c.job.view_is in
    let sources = ap (λ (x : RunningJob). x.sources) c.job.view_is in
    let long : c.length.result ≡ length f.octets = c.length.ensures ∙ sym (made_long S.number S.size S.honest S.octets raw) in
    let now_is : c.in_ok-manifest.manifest ≡ installed_manifest m r.kind r.sources (staged_of (staged_file f)) c.args.next =
    c.in_ok-manifest.ensures.made
    ∙ ap (λ (k : JobKind). installed_manifest m k c.job.inside.sources (record {
      file = c.file.result;
      length = c.length.result;
    }) c.args.next) kind
    ∙ ap (λ (n : ℕ). installed_manifest m r.kind n (record { file = c.file.result; length = c.length.result })
    c.args.next) sources
    ∙ ap (λ (n : ℕ). installed_manifest m r.kind r.sources (record { file = n; length = c.length.result }) c.args.next)
    c.file.ensures
    ∙ ap (λ (n : ℕ). installed_manifest m r.kind r.sources (record { file = f.file; length = n }) c.args.next) long in
    let place = count_before (source_of r.kind) m.entries in
    let place_is : c.sources_from-place.result ≡ place = c.sources_from-place.ensures
    ∙ ap (λ (l : List Entry). count_before (source_of c.job.inside.kind) l) c.as_slice.ensures
    ∙ ap (λ (k : JobKind). count_before (source_of k) m.entries) kind in
    let entry = made_entry r.kind (staged_of (staged_file f)) (sources_of r.kind r.sources m.entries) in
    record {
      r = r;
      f = f;
      job_is = c.in-Some.is;
      staged_is = staged_is;
      now_is = now_is;
      valid = c.in_ok-manifest.ensures.valid;
      body_is = c.in_ok-body.ensures;
      entry_is = ap (λ (n : ℕ). get_or c.as_slice-2.result.now n no_entry) place_is
          ∙ ap (λ (l : List Entry). get_or l place no_entry)
          (c.as_slice-2.ensures ∙ ap (λ (x : Manifest). x.entries) now_is)
          ∙ stands_behind (take place m.entries) (drop (place + r.sources) m.entries) entry no_entry place
          (length-take-le place m.entries
          (omega (arith, behind_short m c.requires.valid r.kind r.sources may.few)));
      place_is = place_is;
      sources_is = sources;
      answer_is = c.cut_moved-answer.ensures ∙ ap (λ (k : JobKind). cut_in k c.in_ok-manifest.manifest) kind;
    }
