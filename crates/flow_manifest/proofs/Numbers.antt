-- A number's octets are those of no other number.
use Rattle.std.proofs.Common.{◌≡◌, ℕ, ◌^◌, ◌<◌, List, ◌++◌, length, take, drop, refl, sym, ap, ◌∙◌}
use Rattle.std.specs.Int.{Width, w16, w32, w64, byte_len, from_be_bytes, to_be_bytes}
use Rattle.std.proofs.lemmas.List.{take_at, drop_at}
use Rattle.std.proofs.lemmas.Nat.{from_be_bytes-to_be_bytes_2, from_be_bytes-to_be_bytes_4, from_be_bytes-to_be_bytes_8}

pub record IsWide (w : Width) (limit : ℕ) : Type 0 where
  pub len : (n : ℕ) → length (to_be_bytes w n) ≡ byte_len w
  pub again : (n : ℕ) → n < limit → from_be_bytes w (to_be_bytes w n) ≡ n

pub wide16 : IsWide w16 (2 ^ 16)
wide16 = record { len = λ n. refl; again = λ n lt. from_be_bytes-to_be_bytes_2 n lt }

pub wide32 : IsWide w32 (2 ^ 32)
wide32 = record { len = λ n. refl; again = λ n lt. from_be_bytes-to_be_bytes_4 n lt }

pub wide64 : IsWide w64 (2 ^ 64)
wide64 = record { len = λ n. refl; again = λ n lt. from_be_bytes-to_be_bytes_8 n lt }

-- the same octets begin with the same number, and the same octets follow
pub same_number : (w : Width) (limit : ℕ) → IsWide w limit → (a b : ℕ) (xs ys : List ℕ) → a < limit → b < limit
    → to_be_bytes w a ++ xs ≡ to_be_bytes w b ++ ys → (a ≡ b) × (xs ≡ ys)
same_number w limit wide a b xs ys fits_a fits_b e = (
  sym (wide.again a fits_a)
      ∙ ap (from_be_bytes w) (sym (take_at (to_be_bytes w a) xs (byte_len w) (wide.len a)) ∙ ap (take (byte_len w)) e
      ∙ take_at (to_be_bytes w b) ys (byte_len w) (wide.len b))
      ∙ wide.again b fits_b,
  sym (drop_at (to_be_bytes w a) xs (byte_len w) (wide.len a)) ∙ ap (drop (byte_len w)) e
      ∙ drop_at (to_be_bytes w b) ys (byte_len w) (wide.len b),
)
