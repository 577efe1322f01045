-- Reading step by step, as a loop does.
use Rattle.std.proofs.Common.{◌≡◌, Bool, true, false, cond, ◌⊎◌, inl, inr, List, [], ◌∷◌, ◌++◌, Result, Ok, Err, refl}
use Rattle.std.proofs.Common.{ap, append_assoc}
use Rattle.flow_codec.specs.declared.error.MessageError.{MessageError}
use Rattle.flow_codec.specs.declared.error.MessageError.TheVariants.{Short, Version, Length, SetLength, TemplateCut}
use Rattle.flow_codec.specs.declared.error.MessageError.TheVariants.{TemplateId, ScopeCount, RecordCut, TemplatesFull}
use Rattle.flow_codec.specs.declared.error.MessageError.TheVariants.{DomainsFull, OutOfMemory}
use Rattle.flow_codec.specs.Reading.{◌>>=◌, Fails}

-- a list read before, put before the one that is still read
abbrev pub with_front : {A B : Type 0} → List A → Result (List A × B) MessageError → Result (List A × B) MessageError
with_front front read = read >>= λ x. Ok (front ++ x.0, x.1)

pub regroup : {A B : Type 0} (front : List A) (a : A) (read : Result (List A × B) MessageError)
    → with_front front (read >>= λ x. Ok (a ∷ x.0, x.1)) ≡ with_front (front ++ a ∷ []) read
regroup {A} {B} front a (Ok x) = let f : List A → Result (List A × B) MessageError = λ ns. Ok (ns, x.1) in
    ap f (simp append_assoc)
regroup front a (Err f) = refl

-- a fault of what is still read is one of the whole
pub Fails-of : {X Y : Type 0} (e : MessageError) (part : Result X MessageError) (whole : Result Y MessageError)
    → ((f : MessageError) → part ≡ Err f → whole ≡ Err f) → Fails e part → Fails e whole
Fails-of OutOfMemory part whole up h = tt
Fails-of Short part whole up h = up Short h
Fails-of Version part whole up h = up Version h
Fails-of Length part whole up h = up Length h
Fails-of (SetLength at) part whole up h = up (SetLength at) h
Fails-of (TemplateCut at) part whole up h = up (TemplateCut at) h
Fails-of (TemplateId at) part whole up h = up (TemplateId at) h
Fails-of (ScopeCount at) part whole up h = up (ScopeCount at) h
Fails-of (RecordCut at) part whole up h = up (RecordCut at) h
Fails-of (TemplatesFull domain) part whole up h = up (TemplatesFull domain) h
Fails-of DomainsFull part whole up h = up DomainsFull h

-- the value of a step that did not fail
pub bind_ok : {A B : Type 0} (r : Result A MessageError) (f : A → Result B MessageError) (y : B) → (r >>= f) ≡ Ok y
    → (x : A) × (r ≡ Ok x) × (f x ≡ Ok y)
bind_ok (Ok x) f y e = (x, refl, e)
bind_ok (Err d) f y e = absurd cc

-- a test that did not fail
pub guard_ok : {A : Type 0} (b : Bool) (d : MessageError) (x y : A) → cond b (Err d) (Ok x) ≡ Ok y
    → (b ≡ false) × (x ≡ y)
guard_ok true d x y e = absurd cc
guard_ok false d x y e = (refl, cc)

-- where a chain of steps fails: at the first, or after it
pub bind_err : {A B : Type 0} (r : Result A MessageError) (f : A → Result B MessageError) (d : MessageError)
    → (r >>= f) ≡ Err d → (r ≡ Err d) ⊎ ((x : A) × (r ≡ Ok x) × (f x ≡ Err d))
bind_err (Ok x) f d e = inr (x, refl, e)
bind_err (Err c) f d e = inl cc

abbrev pub done : {A : Type 0} → A → Result A MessageError
done x = Ok x

pub ok_is : {A : Type 0} (x y : A) → done x ≡ done y → x ≡ y
ok_is x y e = cc

pub chosen : {A : Type 0} (b : Bool) (x y z : A) → cond b x y ≡ z → ((b ≡ true) × (x ≡ z)) ⊎ ((b ≡ false) × (y ≡ z))
chosen true x y z e = inl (refl, e)
chosen false x y z e = inr (refl, e)

-- a test before more steps, that did not fail
pub past : {A : Type 0} (b : Bool) (d : MessageError) (r : Result A MessageError) (y : A) → cond b (Err d) r ≡ Ok y
    → (b ≡ false) × (r ≡ Ok y)
past true d r y e = absurd cc
past false d r y e = (refl, e)

-- a test that had to hold
pub held : {A : Type 0} (b : Bool) (d : MessageError) (r : Result A MessageError) (y : A) → cond b r (Err d) ≡ Ok y
    → (b ≡ true) × (r ≡ Ok y)
held true d r y e = (refl, e)
held false d r y e = absurd cc

pub by_bool : (b : Bool) → (b ≡ true) ⊎ (b ≡ false)
by_bool true = inl refl
by_bool false = inr refl

-- a test that fails, or what comes after it
pub past_err : {A : Type 0} (b : Bool) (d : MessageError) (r : Result A MessageError) (f : MessageError)
    → cond b (Err d) r ≡ Err f → ((b ≡ true) × (f ≡ d)) ⊎ ((b ≡ false) × (r ≡ Err f))
past_err true d r f e = inl (refl, cc)
past_err false d r f e = inr (refl, e)

-- a chain of steps before more steps
pub bind-bind : {A B C : Type 0} (r : Result A MessageError) (f : A → Result B MessageError) (g : B
    → Result C MessageError) → ((r >>= f) >>= g) ≡ (r >>= λ x. f x >>= g)
bind-bind (Ok x) f g = refl
bind-bind (Err d) f g = refl
