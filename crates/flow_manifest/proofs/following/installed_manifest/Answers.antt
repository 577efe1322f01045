use Rattle.std.proofs.Common.{ℕ, ◌+◌, List, length, take, drop, subst, sym}
use Rattle.std.proofs.Common.{arith, ◌∙◌, ap, length-drop}
use Rattle.flow_manifest.specs.declared.manifest.Entry.{Entry}
use Rattle.flow_manifest.specs.Manifest.{IsValidManifest}
use Rattle.flow_manifest.specs.Following.{messages_of, source_of, count_before, cut_by}
use Rattle.flow_manifest.specs.Following.{second_cut_by}
use Rattle.flow_manifest.proofs.ManifestAfterInstall.{installed_valid, same_installed, behind_short, sources_most}
use Rattle.flow_manifest.proofs.ManifestAfterInstall.{cuts_fit}
use Rattle.flow_manifest.proofs.ManifestAfterInstall.{rest_read, front_read, joined_read, cut_most, second_cut_most}
use Rattle.flow_manifest.proofs.following.installed_manifest.Goals as goal

pub split_at-requires-2 : goal.split_at-requires-2
split_at-requires-2 c =
    let m = c.args.now.now in
    let rest = rest_read m c.args.job c.source.result c.as_slice-old.result.now c.split_at.result.1.now
    c.source.ensures c.as_slice-old.ensures (c.split_at.ensures.back
    ∙ ap (λ (n : ℕ). drop n c.as_slice-old.result.now) c.count_before.ensures) in
    omega (
      arith,
      behind_short m c.requires.valid c.args.job c.args.sources c.requires.sources,
      ap (λ (l : List Entry). length l) rest,
      length-drop (count_before (source_of c.args.job) m.entries) m.entries,
    )

pub overflow_cast-messages : goal.overflow_cast-messages
overflow_cast-messages c =
    let m = c.args.now.now in
    let rest = rest_read m c.args.job c.source.result c.as_slice-old.result.now c.split_at.result.1.now
    c.source.ensures c.as_slice-old.ensures (c.split_at.ensures.back
    ∙ ap (λ (n : ℕ). drop n c.as_slice-old.result.now) c.count_before.ensures) in
    let messages = c.totals_of-messages.ensures.all
    ∙ ap messages_of (c.split_at-2.ensures.front ∙ ap (λ (l : List Entry). take c.args.sources l) rest) in
    omega (arith, messages, sources_most m c.requires.valid c.args.job c.args.sources c.requires.sources)

pub overflow_add-result-2 : goal.overflow_add-result-2
overflow_add-result-2 c =
    let m = c.args.now.now in
    let rest = rest_read m c.args.job c.source.result c.as_slice-old.result.now c.split_at.result.1.now
    c.source.ensures c.as_slice-old.ensures (c.split_at.ensures.back
    ∙ ap (λ (n : ℕ). drop n c.as_slice-old.result.now) c.count_before.ensures) in
    let messages = c.totals_of-messages.ensures.all
    ∙ ap messages_of (c.split_at-2.ensures.front ∙ ap (λ (l : List Entry). take c.args.sources l) rest) in
    let fit = cuts_fit m c.requires.valid c.args.job c.args.sources c.requires.sources in
    omega (arith, messages, c.cut_by.ensures, cut_most c.args.job c.totals_of-messages.result.all, fit.0)

pub overflow_add-result-3 : goal.overflow_add-result-3
overflow_add-result-3 c =
    let m = c.args.now.now in
    let rest = rest_read m c.args.job c.source.result c.as_slice-old.result.now c.split_at.result.1.now
    c.source.ensures c.as_slice-old.ensures (c.split_at.ensures.back
    ∙ ap (λ (n : ℕ). drop n c.as_slice-old.result.now) c.count_before.ensures) in
    let messages = c.totals_of-messages.ensures.all
    ∙ ap messages_of (c.split_at-2.ensures.front ∙ ap (λ (l : List Entry). take c.args.sources l) rest) in
    let fit = cuts_fit m c.requires.valid c.args.job c.args.sources c.requires.sources in
    omega (arith, messages, c.second_cut_by.ensures, second_cut_most c.args.job c.totals_of-messages.result.all, fit.1)

pub returns-clause-made : goal.returns-clause-made
returns-clause-made c =
    let m = c.args.now.now in
    let job = c.args.job in
    let place = count_before (source_of job) m.entries in
    let rest = rest_read m job c.source.result c.as_slice-old.result.now c.split_at.result.1.now c.source.ensures
    c.as_slice-old.ensures (c.split_at.ensures.back
    ∙ ap (λ (n : ℕ). drop n c.as_slice-old.result.now) c.count_before.ensures) in
    let front = front_read m job c.source.result c.as_slice-old.result.now c.split_at.result.0.now c.source.ensures
    c.as_slice-old.ensures (c.split_at.ensures.front
    ∙ ap (λ (n : ℕ). take n c.as_slice-old.result.now) c.count_before.ensures) in
    let messages = c.totals_of-messages.ensures.all
    ∙ ap messages_of (c.split_at-2.ensures.front ∙ ap (λ (l : List Entry). take c.args.sources l) rest) in
    let behind = c.split_at-2.ensures.back ∙ ap (λ (l : List Entry). drop c.args.sources l) rest in
    same_installed m c.requires.valid job c.args.sources c.requires.sources c.args.staged c.args.next
    (m.rolled + c.cut_by.result) (m.second + c.second_cut_by.result) c.in_ok-entries.entries
    (ap (λ (n : ℕ). m.rolled + n) (c.cut_by.ensures ∙ ap (cut_by job) messages))
    (ap (λ (n : ℕ). m.second + n) (c.second_cut_by.ensures ∙ ap (second_cut_by job) messages))
    (c.in_ok-entries.ensures
    ∙ joined_read m job c.args.sources c.args.staged c.made.result c.totals_of-messages.result.all
    c.split_at.result.0.now c.split_at-2.result.1.now front behind c.made.ensures messages)

pub returns-clause-valid : goal.returns-clause-valid
returns-clause-valid c = subst IsValidManifest (sym (returns-clause-made c))
    (installed_valid c.args.now.now c.requires.valid c.args.job c.args.sources c.requires.sources c.args.staged
    c.args.next c.requires.generation c.requires.some c.requires.file c.requires.unnamed c.requires.below
    c.requires.next
    (omega (arith, c.ranges.next.fits)) (omega arith))
