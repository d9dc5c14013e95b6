-- What a result or an option holds.
use Rattle.std.proofs.Common.{Err, IfSome, None, Ok, Option, Result, Some, refl, subst, ◌≡◌}
use Rattle.std.specs.Prelude.{IfOk, OnOk}

-- an option that is no value is none
pub none_of : {X : Type 0} (o : Option X) → ((x : X) → o ≡ Some x → ⊥) → o ≡ None
none_of None other = refl
none_of (Some x) other = absurd (other x refl)

pub on_ok_both : {T E P Q R : Type 0} (r : Result T E) → OnOk r P → OnOk r Q → (P → Q → R) → OnOk r R
on_ok_both (Ok x) p q f = f p q
on_ok_both (Err e) p q f = tt

-- a fact over a told image follows from another one
pub if_maps : {X : Type 0} → (o : Option X) (P Q : X → Type 0) → ((x : X) → P x → Q x) → IfSome o P → IfSome o Q
if_maps None P Q f p = tt
if_maps (Some x) P Q f p = f x p

-- and from two, where the image is still the same
pub if_then : {X : Type 0} → (o later : Option X) (P Q R : X → Type 0) → later ≡ o → ((x : X) → P x → Q x → R x)
    → IfSome o P → IfSome later Q → IfSome o R
if_then {X} o later P Q R same f p q = both o P Q R f p (subst (λ t. IfSome t Q) same q)
  where
    both : (o : Option X) (P Q R : X → Type 0) → ((x : X) → P x → Q x → R x) → IfSome o P → IfSome o Q → IfSome o R
    both None P Q R f p q = tt
    both (Some x) P Q R f p q = f x p q

-- three facts over a told image
pub if_three : {X : Type 0} → (o : Option X) (P Q R S : X → Type 0) → ((x : X) → P x → Q x → R x → S x) → IfSome o P → IfSome o Q → IfSome o R → IfSome o S
if_three None P Q R S f p q r = tt
if_three (Some x) P Q R S f p q r = f x p q r

-- what follows of the value, where there is one
pub if_both : {X : Type 0} {P Q R : X → Type 0} → (o : Option X) → ((x : X) → P x → Q x → R x) → IfSome o P → IfSome o Q → IfSome o R
if_both None leads p q = tt
if_both (Some x) leads p q = leads x p q

-- what holds of each value holds of the one that there is
pub if_any : {X : Type 0} {P : X → Type 0} → (o : Option X) → ((x : X) → P x) → IfSome o P
if_any None all = tt
if_any (Some x) all = all x

-- what holds anyway holds at Ok
pub on_ok_any : {T E P : Type 0} (result : Result T E) → P → OnOk result P
on_ok_any (Ok done) holds = holds
on_ok_any (Err fault) holds = tt

pub if_ok_with : {T E P : Type 0} {Q R : T → Type 0} (r : Result T E) → OnOk r P → IfOk r Q → ((x : T) → P → Q x → R x) → IfOk r R
if_ok_with (Ok x) p q f = f x p q
if_ok_with (Err e) p q f = tt

pub if_all : {X : Type 0} → (o : Option X) (P : X → Type 0) → ((x : X) → P x) → IfSome o P
if_all None P f = tt
if_all (Some x) P f = f x
