-- what is chosen by a test
use Rattle.std.proofs.Common.{◌≡◌, Bool, true, false, cond, Option, None, Some, option_map, is_some, refl}

pub chosen_none : {A : Type 0} (b : Bool) (x : A) → cond b (Some x) None ≡ None → b ≡ false
chosen_none true x h = cc
chosen_none false x h = refl

-- what is there behind a test
pub behind_test : {A : Type 0} (b : Bool) (o : Option A) (x : A) → cond b o None ≡ Some x → (b ≡ true) × (o ≡ Some x)
behind_test true o x h = (refl, h)
behind_test false o x h = cc

pub some_by : {A : Type 0} (o : Option A) → is_some o ≡ true → (x : A) × (o ≡ Some x)
some_by None h = absurd cc
some_by (Some x) h = (x, refl)

pub none_mapped : {A B : Type 0} (f : A → B) (o : Option A) → option_map f o ≡ None → o ≡ None
none_mapped f None h = refl
none_mapped f (Some x) h = absurd cc

-- two choices of which one hides the other
pub by_equal : {X : Type 0} (b c : Bool) (v w : X) (rest : Option X) → c ≡ b → cond c (Some v) rest ≡ cond b (Some v) (cond c (Some w) rest)
by_equal true true v w rest e = refl
by_equal false false v w rest e = refl
by_equal true false v w rest e = absurd cc
by_equal false true v w rest e = absurd cc

-- two choices that are not made at once
pub by_greater : {X : Type 0} (b c : Bool) (v w : X) (rest : Option X) → (b ≡ true → c ≡ true → ⊥) → cond c (Some w) (cond b (Some v) rest) ≡ cond b (Some v) (cond c (Some w) rest)
by_greater true true v w rest f = absurd (f refl refl)
by_greater true false v w rest f = refl
by_greater false c v w rest f = refl
