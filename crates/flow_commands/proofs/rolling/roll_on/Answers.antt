use Rattle.std.proofs.Common.{◌≡◌, ap, inl, inr, refl, subst, sym, Err}
use Rattle.std.proofs.KnownBytes.{Keeps-refl}
use Rattle.flow_manifest.specs.declared.error.OpenError.TheVariants as opening
use Rattle.flow_commands.specs.declared.archive_refusal.ArchiveRefusal.{ArchiveRefusal}
use Rattle.flow_commands.specs.Opened.{KeepsFiles}
use Rattle.flow_commands.proofs.Unchanged.{opening_keeps}
use Rattle.flow_commands.proofs.rolling.roll_on.Goals as goal

pub returns-in-Ok-roll-clause-told : goal.returns-in-Ok-roll-clause-told
returns-in-Ok-roll-clause-told g c =
    inl (record {
      opened = c.in-Ok.archive;
      read = c.in-Ok.ensures.read;
      still = c.in-Ok.ensures.cause.done;
      honest = c.in-Ok.ensures.honest;
      any_moment = c.in-Ok.ensures.any_moment;
      is_open = c.in-Ok.ensures.opened.0;
      stands = c.in-Ok.ensures.stands;
      rolled = c.roll.new.archive;
      disk_is = refl;
      done = c.in-Ok-roll.ensures;
    })

pub returns-in-Err-roll-clause-told : goal.returns-in-Err-roll-clause-told
returns-in-Err-roll-clause-told g c =
    inl (record {
      opened = c.in-Ok.archive;
      read = c.in-Ok.ensures.read;
      still = c.in-Ok.ensures.cause.done;
      honest = c.in-Ok.ensures.honest;
      any_moment = c.in-Ok.ensures.any_moment;
      is_open = c.in-Ok.ensures.opened.0;
      stands = c.in-Ok.ensures.stands;
      rolled = c.roll.new.archive;
      disk_is = sym c.into_disk.ensures;
      done = c.in-Err-roll.ensures;
    })

pub returns-in-Err-clause-told : goal.returns-in-Err-clause-told
returns-in-Err-clause-told g c =
    let D = g.D.Disk in
    let left = c.in-Err.refused.disk in
    let caused = c.in-Err.ensures.cause in
    inr (record {
      reason = c.in-Err.refused.error;
      error_is = c.from.ensures;
      told = c.in-Err.ensures.told;
      cause = record {
        later = caused.later;
        done = tt;
        risen = λ fault.
            let is : c.in-Err.refused.error ≡ opening.Fault = cc in
            caused.risen (ap Err is);
        other = caused.other;
      };
      honest = c.in-Err.ensures.honest;
      any_moment = c.in-Err.ensures.any_moment;
      unchanged = subst (λ (e : ArchiveRefusal). KeepsFiles D c.args.disk left e) (sym c.from.ensures)
          (opening_keeps D c.args.disk left c.in-Err.refused.error c.in-Err.ensures.unchanged);
      kept = Keeps-refl (g.W.Write.contents c.args.output.now);
    })
