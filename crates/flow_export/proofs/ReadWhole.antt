-- Segments that are read whole.
use Rattle.std.proofs.Common.{◌≡◌, ◌∙◌, ℕ, ◌<◌, List, ap, length, sym, arith}
use Rattle.std.specs.Prelude.{Err, Vec}
use Rattle.std.specs.declared.alloc.Global.{Global}
use Rattle.std.proofs.lemmas.List.{length-map}
use Rattle.std.specs.List.{AllByRecursion}
use Rattle.flow_codec.specs.Cutting.{IsCutOff}
use Rattle.flow_disk.specs.declared.error.DiskError.{DiskError}
use Rattle.flow_disk.specs.declared.error.DiskError.TheVariants as disk
use Rattle.flow_disk.specs.Printed.{read_refusal}
use Rattle.flow_refusals.specs.declared.read_refusal.ReadRefusal.{ReadRefusal}
use Rattle.flow_refusals.specs.declared.read_refusal.ReadRefusal.TheVariants as read
use Rattle.flow_gate.specs.Scan.{texts}
use Rattle.flow_segment.specs.Segment.{AreGiven, AreMessagesOf}
use Rattle.flow_snapshot.specs.Answered.{IsNoDamage}
use Rattle.flow_snapshot.specs.Files.{cut_into}
use Rattle.flow_snapshot.proofs.PartMessages.{cut_count, cut_whole, messages_are}

pub found_cut : (n : ℕ) (octets : List ℕ) (shared messages : List (List ℕ)) → shared ≡ messages
    → AreMessagesOf octets n messages → shared ≡ cut_into n octets
found_cut n octets shared messages is are = is ∙ sym (messages_are octets n messages are)

-- whatever was read, where there are as many as there are to be
pub same_count : (n count : ℕ) (octets : List ℕ) (shared : List (List ℕ)) (read : List (Vec ℕ Global))
    → shared ≡ texts read → count ≡ length read → count ≡ n → length shared ≡ length (cut_into n octets)
same_count n count octets shared read is are same =
    let many = ap length is ∙ length-map read (λ (message : Vec ℕ Global). message.items) in
    omega (arith, many, are, same, cut_count n octets)

no_damage : (list : List (List ℕ)) (e : ReadRefusal) → AreGiven list (Err e) → IsNoDamage e
no_damage list (read.Damaged file at) h = h
no_damage list read.Fault h = tt
no_damage list read.OutOfMemory h = tt

pub cut_blameless : (n : ℕ) (octets : List ℕ) (e : ReadRefusal) → 0 < n → AllByRecursion IsCutOff (cut_into n octets)
    → ((list : List (List ℕ)) → AreMessagesOf octets n list → AreGiven list (Err e)) → IsNoDamage e
cut_blameless n octets e some each given =
    no_damage (cut_into n octets) e (given (cut_into n octets) (cut_whole n octets some each))

pub some_messages : (n : ℕ) → (n ≡ 0 → ⊥) → 0 < n
some_messages n some = omega (arith, some)

-- a read that failed is no damage
pub read_failed : (e : DiskError) → IsNoDamage (read_refusal e)
read_failed disk.Fault = tt
read_failed disk.OutOfMemory = tt
