use Rattle.std.proofs.Common.{subst, sym, rules, arith}
use Rattle.flow_manifest.specs.Manifest.{IsValidManifest}
use Rattle.flow_manifest.proofs.ManifestAfterSeal.{next_valid}
use Rattle.flow_manifest.proofs.following.next_manifest.Goals as goal

pub returns-clause-valid : goal.returns-clause-valid
returns-clause-valid c = subst IsValidManifest (sym (search rules))
    (next_valid c.args.now.now c.requires.valid c.args.end c.args.count c.args.file c.args.prefix c.requires.generation
    c.requires.few c.requires.file c.requires.next (omega (arith, c.ranges.prefix.fits)) c.requires.some
    c.requires.long c.requires.within c.requires.all)
