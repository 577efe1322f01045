-- A directory whose power is cut, file by file.
use Rattle.std.proofs.Common.{◌≡◌, ◌≢◌, ⊎_elim, ℕ, zero, suc, ◌+◌, ◌<◌, ◌≤◌, false, List, [], ◌∷◌}
use Rattle.std.proofs.Common.{◌++◌, length, get_or, reverse, refl, sym, ◌∙◌, ap, subst, arith, length-append}
use Rattle.std.proofs.lemmas.Bool.{cases_lt, cases_eq}
use Rattle.flow_disk.specs.Disk.{Held, IsImage, IsDiskImage, settled_at}
use Rattle.flow_directory.specs.File.{Part, octet, size, entry, held_of}
use Rattle.flow_memory_directory.specs.declared.deed.Deed.{Deed}
use Rattle.flow_memory_directory.specs.declared.node.Node.{Node}
use Rattle.flow_memory_directory.specs.Bound.{bound, reading, IsSound}
use Rattle.flow_memory_directory.specs.Marks.{is_dirty, is_lost}
use Rattle.flow_memory_directory.specs.Nodes.{looked, octets_in, device_in, file_in, no_file, mark_of, NodeRestores}
use Rattle.flow_memory_directory.specs.Restored.{IsRestored, Appends, IsQuietFile, RestoredSoFar}
use Rattle.flow_memory_directory.specs.Views.{files_in, AllSound}
use Rattle.flow_memory_directory.proofs.Changing.{held_is, to_held}
use Rattle.flow_memory_directory.proofs.Images.{settled_sound}
use Rattle.flow_memory_directory.proofs.Steps.{bound_here, bound_there, pushed, looked_here, looked_past}

module _ {A : Type 0} (view : Node → A) (none : A) where
  pub push_before : (nodes : List Node) (node : Node) (n : ℕ) → n < length nodes
      → looked view none (nodes ++ node ∷ []) n ≡ looked view none nodes n
  push_before [] node n lt = absurd (omega (arith, lt))
  push_before (x ∷ nodes) node zero lt = refl
  push_before (x ∷ nodes) node (suc n) lt = push_before nodes node n (omega (arith, lt))

  pub push_last : (nodes : List Node) (node : Node) (n : ℕ) → n ≡ length nodes
      → looked view none (nodes ++ node ∷ []) n ≡ view node
  push_last [] node zero is = refl
  push_last [] node (suc n) is = absurd (omega (arith, is))
  push_last (x ∷ nodes) node zero is = absurd (omega (arith, is))
  push_last (x ∷ nodes) node (suc n) is = push_last nodes node n (omega (arith, is))

  -- a node that shows nothing
  pub push_none : (nodes : List Node) (node : Node) → view node ≡ none → ((n : ℕ) → looked view none nodes n ≡ none)
      → (n : ℕ) → looked view none (nodes ++ node ∷ []) n ≡ none
  push_none nodes node is all n = ⊎_elim (λ lt. push_before nodes node n lt ∙ all n)
      (λ ge. ⊎_elim (λ same. push_last nodes node n same ∙ is)
      (λ differs. looked_past view none (nodes ++ node ∷ []) n
      (omega (arith, length-append nodes (node ∷ []), ge, differs))) (cases_eq n (length nodes)))
      (cases_lt n (length nodes))

pub quiet_node : (h : Held) (was node : Node) → NodeRestores was node → IsQuietFile (file_in h node)
quiet_node h was node restores = record { clean = clean; lent = restores.lent_is }
  where
    clean : (part : Part) → (is_dirty (mark_of node part) ≡ false) × (is_lost (mark_of node part) ≡ false)
    clean (octet place) = (ap is_dirty (restores.marks_are place), ap is_lost (restores.marks_are place))
    clean size = (ap is_dirty restores.size_is, ap is_lost restores.size_is)
    clean entry = (ap is_dirty restores.entry_is, ap is_lost restores.entry_is)

pub quiet_none : (h : Held) → IsQuietFile (no_file h)
quiet_none h = record { clean = λ part. (refl, refl); lent = refl }

-- one file more
module _ (old : List Node) (deeds : List Deed) (k : ℕ) (was : Node) (nodes now_nodes : List Node) (log now_log : List Deed)
    (so_far : RestoredSoFar old deeds k nodes log) (lt : k < length old) (stood : was ≡ get_or old k was)
    (appends : Appends was k nodes now_nodes log now_log) where
  long : length now_nodes ≡ k + 1
  long = ap (λ (l : List Node). length l) appends.nodes_are
      ∙ omega (arith, length-append nodes (appends.node ∷ []), so_far.long)

  here : {A : Type 0} (view : Node → A) (none : A) → looked view none now_nodes k ≡ view appends.node
  here view none = ap (λ (l : List Node). looked view none l k) appends.nodes_are
      ∙ push_last view none nodes appends.node k (sym so_far.long)

  before : {A : Type 0} (view : Node → A) (none : A) (n : ℕ) → n < k
      → looked view none now_nodes n ≡ looked view none nodes n
  before view none n less = ap (λ (l : List Node). looked view none l n) appends.nodes_are
      ∙ push_before view none nodes appends.node n (omega (arith, less, so_far.long))

  was_device : looked device_in [] old k ≡ device_in was
  was_device = looked_here device_in [] old k was lt ∙ ap device_in (sym stood)

  logged : reverse now_log ≡ appends.deed ∷ reverse log
  logged = ap reverse appends.log_is ∙ pushed log appends.deed

  bound_k : bound (reverse now_log) k ≡ settled_at (octets_in appends.node)
  bound_k = ap (λ (l : List Deed). bound l k) logged
      ∙ bound_here (reverse log) appends.deed k (sym appends.file_is)
      ∙ appends.made_is (bound (reverse log) k)

  bound_n : (n : ℕ) → n ≢ k → bound (reverse now_log) n ≡ bound (reverse log) n
  bound_n n differs = ap (λ (l : List Deed). bound l n) logged
      ∙ bound_there (reverse log) appends.deed n (λ is. differs (is ∙ appends.file_is))

  -- a fact of each file so far, at the files before this one and at this one
  each : (P : ℕ → Type 0) → ((n : ℕ) → n < k → P n) → P k → (n : ℕ) → n < k + 1 → P n
  each P below at n less = ⊎_elim (λ same. subst P (sym same) at) (λ differs. below n (omega (arith, less, differs)))
      (cases_eq n k)

  pub restored_more : RestoredSoFar old deeds (k + 1) now_nodes now_log
  restored_more = record {
    long = long;
    within = omega (arith, lt);
    octets = each (λ n. looked octets_in [] now_nodes n ≡ looked device_in [] old n)
        (λ n less. before octets_in [] n less ∙ so_far.octets n less)
        (here octets_in [] ∙ appends.restores.octets_are ∙ sym was_device);
    device = each (λ n. looked device_in [] now_nodes n ≡ looked device_in [] old n)
        (λ n less. before device_in [] n less ∙ so_far.device n less)
        (here device_in [] ∙ appends.restores.device_is ∙ sym was_device);
    settled = each (λ n. bound (reverse now_log) n ≡ settled_at (looked octets_in [] now_nodes n))
        (λ n less. bound_n n (omega (arith, less)) ∙ so_far.settled n less
        ∙ ap (λ (l : List ℕ). settled_at l) (sym (before octets_in [] n less)))
        (bound_k ∙ ap (λ (l : List ℕ). settled_at l) (sym (here octets_in [])));
    rest = λ n more. bound_n n (omega (arith, more)) ∙ so_far.rest n (omega (arith, more));
    quiet = λ h. each (λ n. IsQuietFile (looked (file_in h) (no_file h) now_nodes n))
        (λ n less. subst IsQuietFile (sym (before (file_in h) (no_file h) n less)) (so_far.quiet h n less))
        (subst IsQuietFile (sym (here (file_in h) (no_file h))) (quiet_node h was appends.node appends.restores));
  }

-- all files
module _ (old : List Node) (deeds : List Deed) (k : ℕ) (nodes : List Node) (log : List Deed)
    (so_far : RestoredSoFar old deeds k nodes log) (end : k ≡ length old) (sound : AllSound old deeds) where
  -- beyond the last file
  beyond : {A : Type 0} (view : Node → A) (none : A) (n : ℕ) → k ≤ n → looked view none nodes n ≡ looked view none old n
  beyond view none n le = looked_past view none nodes n (omega (arith, le, so_far.long))
      ∙ sym (looked_past view none old n (omega (arith, le, end)))

  octets_are : (n : ℕ) → looked octets_in [] nodes n ≡ looked device_in [] old n
  octets_are n = ⊎_elim (λ less. so_far.octets n less)
      (λ le. looked_past octets_in [] nodes n (omega (arith, le, so_far.long))
      ∙ sym (looked_past device_in [] old n (omega (arith, le, end)))) (cases_lt n k)

  pub restored_sound : AllSound nodes (reverse log)
  restored_sound n = ⊎_elim (λ less. here less) (λ le. there le) (cases_lt n k)
    where
      here : n < k → IsSound (bound (reverse log) n) (looked octets_in [] nodes n) (looked device_in [] nodes n)
      here less = subst (λ (h : Held). IsSound h (looked octets_in [] nodes n) (looked device_in [] nodes n))
          (sym (so_far.settled n less))
          (settled_sound (looked octets_in [] nodes n) (looked device_in [] nodes n)
          (so_far.device n less ∙ sym (so_far.octets n less)))

      there : k ≤ n → IsSound (bound (reverse log) n) (looked octets_in [] nodes n) (looked device_in [] nodes n)
      there le = subst (λ (h : Held). IsSound h (looked octets_in [] nodes n) (looked device_in [] nodes n))
          (sym (so_far.rest n le))
          (subst (λ (l : List ℕ). IsSound (bound deeds n) l (looked device_in [] nodes n))
          (sym (beyond octets_in [] n le))
          (subst (λ (l : List ℕ). IsSound (bound deeds n) (looked octets_in [] old n) l)
          (sym (beyond device_in [] n le)) (sound n)))

  pub restored_image : IsDiskImage (held_of (files_in old deeds)) (λ n. (files_in nodes (reverse log) n).held.reads)
  restored_image n = subst (λ (l : List ℕ). IsImage (files_in old deeds n).held l)
      (sym (ap (λ (h : Held). h.reads) (held_is (bound (reverse log) n) nodes n) ∙ octets_are n))
      (to_held old deeds n (looked device_in [] old n) (sound n).left)

  pub restored_files : (n : ℕ) → n < length old → IsRestored (files_in nodes (reverse log) n)
  restored_files n less =
      let quiet = so_far.quiet (bound (reverse log) n) n (omega (arith, less, end)) in
      let held = held_is (bound (reverse log) n) nodes n in
      record {
        held = held
            ∙ ap (λ (h : Held). reading h (looked octets_in [] nodes n)) (so_far.settled n (omega (arith, less, end)))
            ∙ ap (λ (h : Held). settled_at h.reads) (sym held);
        clean = quiet.clean;
        lent = quiet.lent;
      }

  pub restored_quiet : (n : ℕ) → IsQuietFile (files_in nodes (reverse log) n)
  restored_quiet n = ⊎_elim (λ less. so_far.quiet (bound (reverse log) n) n less)
      (λ le. subst IsQuietFile (sym (looked_past (file_in (bound (reverse log) n)) (no_file (bound (reverse log) n)) nodes n
      (omega (arith, le, so_far.long)))) (quiet_none (bound (reverse log) n))) (cases_lt n k)

-- no file yet
pub restored_none : (old : List Node) (log : List Deed) → RestoredSoFar old (reverse log) 0 [] log
restored_none old log = record {
  long = refl;
  within = omega arith;
  octets = λ n less. absurd (omega (arith, less));
  device = λ n less. absurd (omega (arith, less));
  settled = λ n less. absurd (omega (arith, less));
  rest = λ n le. refl;
  quiet = λ h n less. absurd (omega (arith, less));
}

-- a directory without files
pub linked_is : (h : Held) (nodes : List Node) (n : ℕ)
    → (looked (file_in h) (no_file h) nodes n).linked ≡ looked (λ (x : Node). x.linked) false nodes n
linked_is h [] n = refl
linked_is h (x ∷ nodes) zero = refl
linked_is h (x ∷ nodes) (suc n) = linked_is h nodes n

pub empty_sound : (nodes : List Node) → ((n : ℕ) → looked octets_in [] nodes n ≡ [])
    → ((n : ℕ) → looked device_in [] nodes n ≡ []) → AllSound nodes []
empty_sound nodes octets device n = subst (λ (l : List ℕ). IsSound (bound [] n) l (looked device_in [] nodes n))
    (sym (octets n)) (settled_sound [] (looked device_in [] nodes n) (device n))
