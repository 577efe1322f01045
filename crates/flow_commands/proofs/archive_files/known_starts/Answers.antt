use Rattle.std.proofs.Common.{rules, ◌≡◌, ◌∙◌, ◌-◌, ◌+◌, ◌<◌, ◌^◌, subst, length}
use Rattle.std.specs.Prelude.{Some, slice_get}
use Rattle.flow_segment.specs.Segment.{part_octets}
use Rattle.flow_segment.proofs.Sure.{found_again}
use Rattle.flow_snapshot.specs.Files.{segment_of}
use Rattle.flow_snapshot.specs.Found.{kept_by_file, kept_file}
use Rattle.flow_commands.specs.ArchiveFiles.{starts_of_file, starts_of_span}
use Rattle.flow_commands.proofs.KnownStarts.{starts_known}
use Rattle.flow_commands.proofs.archive_files.known_starts.Goals as goal

pub returns-in_ok-span-in-Sealed : goal.returns-in_ok-span-in-Sealed
returns-in_ok-span-in-Sealed g c = λ honest wide narrow are_wide are_narrow.
    let S = g.S.SealedFile in
    let s = c.args.snapshot.now.shelf in
    let part = c.in-Sealed.part.now in
    let span = c.in_ok-span-in-Sealed.span in
    let at = c.from-number.result - c.summed_files-summed.result in
    let known : part.span ≡ Some span = search rules in
    let there : slice_get (kept_by_file s) at ≡ Some (kept_file (segment_of part)) = c.in-Sealed.ensures.file in
    let has = found_again span (part_octets 0 part.prefix (S.octets part.reader))
    (part_octets part.prefix part.length (S.octets part.reader)) part.messages
    (part.spanned (c.in-Sealed.ensures.honest honest) span known) in
    let number : c.args.number ≡ length s.merged + length s.rolled + at = search rules in
    let files : c.args.count ≡ length s.merged + length s.rolled + (length s.sealed + 1) = search rules in
    let small : span.last < 2 ^ 32 = search rules in
    let some : 0 < s.width = search rules in
    c.starts_of_span.ensures
    ∙ subst (λ (w : _). starts_of_span w span ≡ starts_of_file s c.args.count wide narrow c.args.number)
    (let is : s.width ≡ c.args.width = search rules in is)
    (starts_known part s wide narrow at c.args.count c.args.number span some small has there are_wide are_narrow number
    files c.requires.count)
