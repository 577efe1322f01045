-- How a story goes on.
use Rattle.std.proofs.Common.{◌≡◌, ℕ, List, ◌∙◌, ap}
use Rattle.std.proofs.Math.Path.{fun_ext}
use Rattle.flow_disk.specs.Disk.{Marks}
use Rattle.flow_memory_disk.specs.Calls.{Call, Story}

pub same_story : (s t : Story) → ((n : ℕ) → s.base n ≡ t.base n) → s.calls ≡ t.calls
    → ((n : ℕ) → s.marks n ≡ t.marks n) → s ≡ t
same_story s t base calls marks =
    ap (λ (b : ℕ → List ℕ). record { base = b; calls = s.calls; marks = s.marks }) (fun_ext base)
    ∙ ap (λ (l : List Call). record { base = t.base; calls = l; marks = s.marks }) calls
    ∙ ap (λ (m : ℕ → Marks). record { base = t.base; calls = t.calls; marks = m }) (fun_ext marks)
