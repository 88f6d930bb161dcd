-- A set of driven names with one name more.
use Rattle.std.proofs.Common.{◌≡◌, ℕ, List, [], ◌∷◌, ◌++◌, Bool, true, false, ◌||◌, refl, sym, ap, ◌∙◌, inl, inr, ◌⊎◌, ⊎_elim}
use Rattle.std.specs.Prelude.{Vec, if◌then◌else◌}
use Rattle.std.specs.declared.alloc.Global.{Global}
use Rattle.std.specs.List.{list_any}
use Rattle.std.specs.Str.{bytes_eq}
use Rattle.indexmap.specs.IndexSet.{insert_key}
use Rattle.fir_base.specs.Lists.{In}
use Rattle.fir_base.proofs.Members.{in_left, in_right, in_either}
use Rattle.fir_base.proofs.Twins.{distinct_more}
use Rattle.fir_base.proofs.SameNames.{name_is, name_same}
use Rattle.ver_valid.specs.declared.driven.Driven.{Driven}
use Rattle.ver_valid.specs.working.Driven.{has, Drives}

abbrev same_key : Vec ℕ Global → Vec ℕ Global → Bool
same_key a b = bytes_eq a.items b.items

abbrev has_in : List (Vec ℕ Global) → List ℕ → Bool
has_in keys n = list_any (λ known. bytes_eq n known.items) keys

or_false : (b : Bool) → (b || false) ≡ b
or_false true = refl
or_false false = refl

either_holds : (a b : Bool) → (a || b) ≡ true → (a ≡ true) ⊎ (b ≡ true)
either_holds true b h = inl refl
either_holds false b h = inr h

or_right : (a b : Bool) → b ≡ true → (a || b) ≡ true
or_right true b h = refl
or_right false b h = h

or_left : (a b : Bool) → a ≡ true → (a || b) ≡ true
or_left true b h = refl
or_left false b h = cc

or_assoc : (a b c : Bool) → (a || (b || c)) ≡ ((a || b) || c)
or_assoc true b c = refl
or_assoc false b c = refl

has_more : (keys : List (Vec ℕ Global)) (key : Vec ℕ Global) (n : List ℕ) → has_in (keys ++ key ∷ []) n ≡ (has_in keys n || bytes_eq n key.items)
has_more [] key n = or_false (bytes_eq n key.items)
has_more (k ∷ keys) key n = ap (λ b. bytes_eq n k.items || b) (has_more keys key n) ∙ or_assoc (bytes_eq n k.items) (has_in keys n) (bytes_eq n key.items)

-- a name that the set has not is none of the list
pub undriven : (driven : Driven) (ns : List (List ℕ)) (n : List ℕ) → Drives driven ns → has driven n ≡ false → In ns n → ⊥
undriven driven ns n d h m = let there = d.each n m in cc

pub drives_more : (old new : Driven) (ns : List (List ℕ)) (n : List ℕ) (key : Vec ℕ Global) → new.names.keys ≡ insert_key same_key old.names.keys key → key.items ≡ n
    → has old n ≡ false → Drives old ns → Drives new (ns ++ n ∷ [])
drives_more old new ns n key inserted named free d =
    let absent : has_in old.names.keys key.items ≡ false = ap (has old) named ∙ free in
    let grown : new.names.keys ≡ old.names.keys ++ key ∷ [] =
    inserted ∙ ap (λ b. if b then old.names.keys else old.names.keys ++ key ∷ []) absent in
    let now : (m : List ℕ) → has new m ≡ (has old m || bytes_eq m key.items) =
    λ m. ap (λ keys. has_in keys m) grown ∙ has_more old.names.keys key m in
    record {
      only = λ m h.
          ⊎_elim
          (λ (e : has old m ≡ true). in_left ns (n ∷ []) m (d.only m e))
          (λ (e : bytes_eq m key.items ≡ true). in_right ns (n ∷ []) m (inl (sym (name_is m key.items e ∙ named))))
          (either_holds (has old m) (bytes_eq m key.items) (sym (now m) ∙ h));
      each = λ m i.
          now m
          ∙ ⊎_elim
          (λ (j : In ns m). or_left (has old m) (bytes_eq m key.items) (d.each m j))
          (λ (j : In (n ∷ []) m). ⊎_elim
          (λ (e : n ≡ m). or_right (has old m) (bytes_eq m key.items) (ap (bytes_eq m) (named ∙ e) ∙ name_same m))
          (λ (o : ⊥). absurd o) j)
          (in_either ns (n ∷ []) m i);
      once = distinct_more ns n d.once (undriven old ns n d free);
    }
