-- Groups of an address, put one after the other with colons between them.
use Rattle.std.proofs.Common.{◌≡◌, ◌∙◌, ℕ, List, [], ◌∷◌, ◌++◌, ap, append_assoc}
use Rattle.std.specs.List.{join_with_byte}

one_more : (old mid done g new : List ℕ) → mid ≡ old ++ done → new ≡ mid ++ 58 ∷ g → new ≡ old ++ (done ++ 58 ∷ g)
one_more old mid done g new so e = e ∙ ap (λ (t : List ℕ). t ++ 58 ∷ g) so ∙ append_assoc old done (58 ∷ g)

module _ (a b c d e f g h : List ℕ) where
  x2 : List ℕ
  x2 = a ++ 58 ∷ b

  x3 : List ℕ
  x3 = x2 ++ 58 ∷ c

  x4 : List ℕ
  x4 = x3 ++ 58 ∷ d

  x5 : List ℕ
  x5 = x4 ++ 58 ∷ e

  x6 : List ℕ
  x6 = x5 ++ 58 ∷ f

  x7 : List ℕ
  x7 = x6 ++ 58 ∷ g

  joined : x7 ++ 58 ∷ h ≡ join_with_byte 58 (a ∷ b ∷ c ∷ d ∷ e ∷ f ∷ g ∷ h ∷ [])
  unfolding x2 x3 x4 x5 x6 x7
  joined =
      append_assoc x6 (58 ∷ g) (58 ∷ h)
      ∙ append_assoc x5 (58 ∷ f) (join_with_byte 58 ([] ∷ g ∷ h ∷ []))
      ∙ append_assoc x4 (58 ∷ e) (join_with_byte 58 ([] ∷ f ∷ g ∷ h ∷ []))
      ∙ append_assoc x3 (58 ∷ d) (join_with_byte 58 ([] ∷ e ∷ f ∷ g ∷ h ∷ []))
      ∙ append_assoc x2 (58 ∷ c) (join_with_byte 58 ([] ∷ d ∷ e ∷ f ∷ g ∷ h ∷ []))
      ∙ append_assoc a (58 ∷ b) (join_with_byte 58 ([] ∷ c ∷ d ∷ e ∷ f ∷ g ∷ h ∷ []))

pub eight_joined : (old a b c d e f g h t1 t2 t3 t4 t5 t6 t7 t8 : List ℕ) → t1 ≡ old ++ a → t2 ≡ t1 ++ 58 ∷ b
    → t3 ≡ t2 ++ 58 ∷ c → t4 ≡ t3 ++ 58 ∷ d → t5 ≡ t4 ++ 58 ∷ e → t6 ≡ t5 ++ 58 ∷ f → t7 ≡ t6 ++ 58 ∷ g
    → t8 ≡ t7 ++ 58 ∷ h → t8 ≡ old ++ join_with_byte 58 (a ∷ b ∷ c ∷ d ∷ e ∷ f ∷ g ∷ h ∷ [])
unfolding x2 x3 x4 x5 x6 x7
eight_joined old a b c d e f g h t1 t2 t3 t4 t5 t6 t7 t8 e1 e2 e3 e4 e5 e6 e7 e8 =
    let s2 = one_more old t1 a b t2 e1 e2 in
    let s3 = one_more old t2 (x2 a b c d e f g h) c t3 s2 e3 in
    let s4 = one_more old t3 (x3 a b c d e f g h) d t4 s3 e4 in
    let s5 = one_more old t4 (x4 a b c d e f g h) e t5 s4 e5 in
    let s6 = one_more old t5 (x5 a b c d e f g h) f t6 s5 e6 in
    let s7 = one_more old t6 (x6 a b c d e f g h) g t7 s6 e7 in
    let s8 = one_more old t7 (x7 a b c d e f g h) h t8 s7 e8 in
    s8 ∙ ap (λ (t : List ℕ). old ++ t) (joined a b c d e f g h)
