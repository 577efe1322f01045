-- The files of an archive are IPFIX Files.
use Rattle.std.proofs.Common.{◌≡◌, ◌∙◌, ℕ, ◌+◌, List, [], ◌∷◌, ◌++◌, Option, refl, sym, ap, ap₂, subst, map}
use Rattle.std.specs.Prelude.{length, take, drop}
use Rattle.std.specs.List.{AllByRecursion}
use Rattle.std.proofs.Math.Seq.{take-add}
use Rattle.std.proofs.lemmas.List.{append-nil, drop-drop, map-append}
use Rattle.std.proofs.lemmas.List.Concat.{flat_map-append}
use Rattle.flow_codec.specs.Cutting.{IsCutOff}
use Rattle.flow_codec.specs.File.{IsFile}
use Rattle.flow_codec.specs.Message.{joined}
use Rattle.flow_codec.specs.Templates.{AllTemplates}
use Rattle.flow_codec.proofs.RestatingAll.{message_cut}
use Rattle.flow_gate.specs.Gate.{StandInRow, octet_sum}
use Rattle.flow_manifest.specs.declared.manifest.Entry.{Entry}
use Rattle.flow_manifest.specs.declared.manifest.Kind.{Kind}
use Rattle.flow_manifest.specs.declared.manifest.Kind.TheVariants.{Wide, Rolled, Sealed, Active}
use Rattle.flow_manifest.specs.declared.manifest.Manifest.{Manifest}
use Rattle.flow_manifest.specs.Following.{active_of, front_of}
use Rattle.flow_measure.specs.History.{Accepted, AreAcceptedFrom, templates_from}
use Rattle.flow_measure.specs.Sums.{Table}
use Rattle.flow_measure.proofs.Histories.{read_again}
use Rattle.flow_rolled.specs.AsFile.{messages_of}
use Rattle.flow_rolled.specs.Rollup.{IsRollup, table_messages}
use Rattle.flow_rolled.proofs.FileForm.{rolled_file}
use Rattle.flow_segment.specs.Carry.{Carry, octets_of}
use Rattle.flow_segment.specs.Prefix.{HaveNoRecords}
use Rattle.flow_segment.proofs.Carrying.{is_file}
use Rattle.flow_model.proofs.Accepting.{accepted_then}
use Rattle.flow_model.specs.Chain.{ArePartsBehind, IsPartBehind, IsSegment}
use Rattle.flow_model.specs.Standing.{IsSealedAt, PartsStand, StandsAs}
use Rattle.flow_model.specs.State.{Part, end_of}
use Rattle.flow_headline.specs.IpfixFiles.{AreFilesAs, FilesAreIpfix, IsFileAs, IsIpfixFile, IsSegmentFile, IsSumsFile}

-- ---- messages in a row are what a file has up to their end

row_taken : (octets : List ℕ) (place : ℕ) (ms : List (List ℕ)) → StandInRow octets place ms
    → take (octet_sum ms) (drop place octets) ≡ joined ms
row_taken octets place [] row = refl
row_taken octets place (m ∷ ms) row =
    take-add (length m) (octet_sum ms) (drop place octets)
    ∙ ap₂ (λ (a : List ℕ) (b : List ℕ). a ++ b) row.1
    (ap (take (octet_sum ms)) (drop-drop (length m) place octets)
    ∙ row_taken octets (place + length m) ms row.2)

segment_octets : (octets : List ℕ) (prefix : ℕ) (part : Part) → take prefix octets ≡ part.front
    → StandInRow octets prefix part.messages
    → take (prefix + octet_sum part.messages) octets ≡ part.front ++ joined part.messages
segment_octets octets prefix part front row =
    take-add prefix (octet_sum part.messages) octets
    ∙ ap₂ (λ (a : List ℕ) (b : List ℕ). a ++ b) front (row_taken octets prefix part.messages row)

-- ---- a segment

each_cut : (before : AllTemplates) (xs : List Accepted) → AreAcceptedFrom before xs
    → AllByRecursion IsCutOff (octets_of xs)
each_cut before [] h = tt
each_cut before (x ∷ xs) h = (message_cut x.octets before x.message x.after h.0.0, each_cut x.after xs h.1)

-- accepted messages, joined
file_of : (xs : List Accepted) → AreAcceptedFrom [] xs → IsIpfixFile (joined (octets_of xs)) (octets_of xs)
file_of xs accepted = record {
  divided = record { whole = sym (append-nil (joined (octets_of xs))); each = each_cut [] xs accepted };
  file = subst (λ (ys : List Accepted). IsFile (joined (octets_of xs)) (map (λ a. a.message) ys) (templates_from [] ys))
      (sym (read_again [] xs accepted)) (is_file xs accepted);
}

segment_file : (octets : List ℕ) (part : Part) (carry : Carry) → IsSegment part carry
    → octets ≡ part.front ++ joined part.messages → IsSegmentFile octets part
segment_file octets part carry is same =
    let all = is.prefix ++ is.messages in
    let accepted : AreAcceptedFrom [] all = accepted_then [] is.prefix is.messages is.front.accepted is.accepted in
    let parts : octets_of all ≡ octets_of is.prefix ++ part.messages =
    map-append (λ (a : Accepted). a.octets) is.prefix is.messages
    ∙ ap (λ (ms : List (List ℕ)). octets_of is.prefix ++ ms) is.octets in
    let front : part.front ≡ joined (octets_of is.prefix) =
    is.front.divided.whole ∙ append-nil (joined (octets_of is.prefix)) in
    let whole : octets ≡ joined (octets_of all) =
    same ∙ ap (λ (l : List ℕ). l ++ joined part.messages) front
    ∙ sym (flat_map-append (λ (r : List ℕ). r) (octets_of is.prefix) part.messages)
    ∙ ap joined (sym parts) in
    record {
      prefix = octets_of is.prefix;
      divided = is.front.divided;
      restated = subst HaveNoRecords (sym (read_again [] is.prefix is.front.accepted)) is.restated;
      file = subst (IsIpfixFile octets) parts
          (subst (λ (o : List ℕ). IsIpfixFile o (octets_of all)) (sym whole) (file_of all accepted));
    }

-- ---- a file of sums

sums_file : (width : ℕ) (octets front : List ℕ) (table : Table) → octets ≡ front → IsRollup width front table
    → IsSumsFile width octets
sums_file width octets front table same is =
    let here = subst (λ (o : List ℕ). IsRollup width o table) (sym same) is in
    let made = rolled_file table here.time here.valid here.small in
    record {
      table = table;
      rollup = here;
      after = made.0;
      file = subst
          (λ (o : List ℕ). IsFile o (messages_of table.width (table_messages table here.time)) made.0) (sym here.is)
          made.1;
    }

-- ---- all files

sealed_file : (octets : List ℕ) (e : Entry) (p : Part) (carry : Carry) → IsSealedAt octets e p → IsSegment p carry
    → IsSegmentFile (take e.length octets) p
sealed_file octets e p carry at is =
    segment_file (take e.length octets) p carry is
    (ap (λ (n : ℕ). take n octets) (sym at.count) ∙ segment_octets octets e.prefix p at.front at.row)

one_file : (m : Manifest) (before between : Option Carry) (kind : Kind) (octets : List ℕ) (e : Entry) (p : Part)
    → StandsAs kind octets e p → IsPartBehind m kind before p between → IsFileAs m kind (take e.length octets) p
one_file m before between Wide octets e p at is =
    sums_file m.wide (take e.length octets) p.front is.0.0 at.front is.0.1
one_file m before between Rolled octets e p at is =
    sums_file m.width (take e.length octets) p.front is.0.0 at.front is.0.1
one_file m before between Sealed octets e p at is = sealed_file octets e p is.0 at is.2
one_file m before between Active octets e p at is = absurd at

each_file : (m : Manifest) (image : ℕ → List ℕ) (before after : Option Carry) (entries : List Entry) (parts : List Part)
    → PartsStand image entries parts → ArePartsBehind m before entries parts after → AreFilesAs m image entries parts
each_file m image before after [] [] at is = tt
each_file m image before after [] (p ∷ ps) at is = absurd at
each_file m image before after (e ∷ es) [] at is = absurd at
each_file m image before after (e ∷ es) (p ∷ ps) at is = (
  one_file m before is.0 e.kind (image e.file) e p at.0 is.1,
  each_file m image is.0 after es ps at.1 is.2,
)

pub ipfix_files : FilesAreIpfix
ipfix_files image s stands =
    let hands = stands.files.chained.1 in
    let octets = image (active_of s.manifest).file in
    let active = stands.files.active in (
      each_file s.manifest image _ _ (front_of s.manifest) s.parts stands.files.parts hands.parts,
      segment_file (take (end_of s) octets) s.active hands.active.0 hands.active.2
          (segment_octets octets (active_of s.manifest).prefix s.active active.front active.gated.row),
    )
