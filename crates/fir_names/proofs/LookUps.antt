-- Look-ups with one more behind those that were there: what is found first stays, and what was not found is the last.
use Rattle.std.proofs.Common.{◌≡◌, Bool, true, false, cond, refl, ap}
use Rattle.std.specs.Prelude.{Option, Some, None, is_some, option_map}
use Rattle.std.specs.Option.{option_or}

pub or_cond : {A : Type 0} (b : Bool) (x : A) (y z : Option A) → cond b (Some x) (option_or y z) ≡ option_or (cond b (Some x) y) z
or_cond true x y z = refl
or_cond false x y z = refl

-- what is under a key, where the last has this key or not: written there if it was not found, and else kept
pub found_last : {A : Type 0} (b : Bool) (last : A) (under found : Option A) → (b ≡ true → None ≡ under) → under ≡ found
    → cond b (Some last) under ≡ option_or found (cond b (Some last) None)
found_last true last under None missing same = refl
found_last true last under (Some x) missing same = absurd (let none : None ≡ under = missing refl in cc)
found_last false last under None missing same = same
found_last false last under (Some x) missing same = same

pub found_before : {A : Type 0} (b : Bool) (last : A) (under found : Option A) → (b ≡ true → is_some under ≡ true) → under ≡ found
    → under ≡ option_or found (cond b (Some last) None)
found_before true last under None there same = absurd (let some : is_some under ≡ true = there refl in let none : is_some under ≡ false = ap is_some same in cc)
found_before true last under (Some x) there same = same
found_before false last under None there same = same
found_before false last under (Some x) there same = same

pub map_last : {A B : Type 0} (f : A → B) (b : Bool) (last : A) (found : Option A)
    → option_map f (option_or found (cond b (Some last) None)) ≡ option_or (option_map f found) (cond b (Some (f last)) None)
map_last f true last None = refl
map_last f false last None = refl
map_last f b last (Some x) = refl

pub none_there : {A : Type 0} (o : Option A) → is_some o ≡ false → None ≡ o
none_there None absent = refl
none_there (Some x) absent = absurd (cc)
