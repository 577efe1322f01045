-- One call more in the record.
use Rattle.std.proofs.Common.{◌≡◌, ℕ, ◌+◌, ◌≤◌, List, [], ◌∷◌, ◌++◌, length, drop, refl, ◌∙◌, ap, arith, length-drop}
use Rattle.std.proofs.lemmas.List.{take-append-le, drop-append-le}
use Rattle.flow_memory_disk.specs.declared.deed.Deed.{Deed}
use Rattle.flow_memory_disk.specs.declared.deed.Deed.TheVariants.{Wrote, Cut, Synced, Abandoned, Removed}
use Rattle.flow_memory_disk.specs.Calls.{Call, written}
use Rattle.flow_memory_disk.specs.Record.{call_of, calls_of, octet_count, count_all}

pub octets_push : (deeds : List Deed) (deed : Deed)
    → count_all (deeds ++ deed ∷ []) ≡ count_all deeds + octet_count deed
octets_push [] deed = omega arith
octets_push (first ∷ deeds) deed = omega (arith, octets_push deeds deed)

call_front : (deed : Deed) (octets more : List ℕ) → octet_count deed ≤ length octets
    → call_of deed (octets ++ more) ≡ call_of deed octets
call_front (Wrote file at count) octets more le = ap (written file at) (take-append-le count octets more le)
call_front (Cut file count) octets more le = refl
call_front (Synced file) octets more le = refl
call_front (Abandoned file) octets more le = refl
call_front (Removed file) octets more le = refl

no_octets : (octets : List ℕ) → 0 ≡ length octets → octets ≡ []
no_octets [] is = refl
no_octets (x ∷ octets) is = absurd (omega (arith, is))

pub calls_push : (deeds : List Deed) (deed : Deed) (octets more : List ℕ) → count_all deeds ≡ length octets
    → calls_of (deeds ++ deed ∷ []) (octets ++ more) ≡ calls_of deeds octets ++ call_of deed more ∷ []
calls_push [] deed octets more whole = ap (λ (l : List ℕ). call_of deed (l ++ more) ∷ []) (no_octets octets whole)
calls_push (first ∷ deeds) deed octets more whole =
    let rest = calls_push deeds deed (drop (octet_count first) octets) more
    (omega (arith, whole, length-drop (octet_count first) octets)) in
    let same : call_of first (octets ++ more) ≡ call_of first octets =
    call_front first octets more (omega (arith, whole)) in
    let behind : drop (octet_count first) (octets ++ more) ≡ drop (octet_count first) octets ++ more =
    drop-append-le (octet_count first) octets more (omega (arith, whole)) in
    ap (λ (c : Call). c ∷ calls_of (deeds ++ deed ∷ []) (drop (octet_count first) (octets ++ more))) same
    ∙ ap (λ (l : List ℕ). call_of first octets ∷ calls_of (deeds ++ deed ∷ []) l) behind
    ∙ ap (λ (l : List Call). call_of first octets ∷ l) rest
