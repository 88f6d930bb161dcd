-- What is found among declarations under a name.
use Rattle.std.proofs.Common.{◌≡◌, ℕ, List, [], ◌∷◌, ◌++◌, map, true, false, Some, None, refl, sym, ap, inl, inr, ⊎_elim, subst}
use Rattle.std.specs.Str.{bytes_eq}
use Rattle.fir_base.specs.Lists.{In, Distinct}
use Rattle.fir_ast.specs.Statements.{PlacedName}
use Rattle.fir_meaning.specs.Components.{Declaration, Declarations, find, find_name}
use Rattle.fir_base.proofs.Members.{in_map}
use Rattle.fir_base.proofs.Tests.{chosen}
use Rattle.fir_base.proofs.Twins.{distinct_more}
use Rattle.fir_base.proofs.SameNames.{name_is, name_same, name_other, name_apart}

-- no name is declared twice
pub record Once (ds : Declarations) : Type 0 where
  pub once : Distinct (map (λ d. d.named.name) ds)

-- what is found stands among them, under its name
pub found_among : (ds : Declarations) (n : List ℕ) (d : Declaration) → find ds n ≡ Some d → In ds d × (d.named.name ≡ n)
found_among [] n d h = cc
found_among (x ∷ ds) n d h =
    ⊎_elim
    (λ (c : (bytes_eq x.named.name n ≡ true) × (Some x ≡ Some d)).
    let e : x ≡ d = cc in (inl e, subst (λ (y : Declaration). y.named.name ≡ n) e (name_is x.named.name n c.0)))
    (λ (c : (bytes_eq x.named.name n ≡ false) × (find ds n ≡ Some d)). let r = found_among ds n d c.1 in (inr r.0, r.1))
    (chosen (bytes_eq x.named.name n) (Some x) (find ds n) (Some d) h)

-- where no name is declared twice, each is found under its name
found_alone : (ds : Declarations) → Distinct (map (λ d. d.named.name) ds) → (d : Declaration) → In ds d → find ds d.named.name ≡ Some d
found_alone [] o d m = absurd m
found_alone (x ∷ ds) o d (inl e) = subst (λ (y : Declaration). find (x ∷ ds) y.named.name ≡ Some y) e (rw (name_same x.named.name) refl)
found_alone (x ∷ ds) o d (inr m) =
    let apart = name_other x.named.name d.named.name (λ e. o.0 (subst (In (map (λ y. y.named.name) ds)) (sym e) (in_map (λ y. y.named.name) ds d m))) in
    rw apart (found_alone ds o.1 d m)

pub once_found : (ds : Declarations) → Once ds → (d : Declaration) → In ds d → find ds d.named.name ≡ Some d
once_found ds o d m = found_alone ds o.once d m

-- a name that is not found is none of theirs
pub unfound : (ns : List PlacedName) (n : List ℕ) → find_name ns n ≡ None → In (map (λ m. m.name) ns) n → ⊥
unfound [] n h m = m
unfound (x ∷ ns) n h m =
    ⊎_elim
    (λ (c : (bytes_eq x.name n ≡ true) × (Some x ≡ None)). let e : Some x ≡ None = c.1 in absurd cc)
    (λ (c : (bytes_eq x.name n ≡ false) × (find_name ns n ≡ None)).
    ⊎_elim (λ (e : x.name ≡ n). name_apart x.name n c.0 e) (λ (o : In (map (λ m. m.name) ns) n). unfound ns n c.1 o) m)
    (chosen (bytes_eq x.name n) (Some x) (find_name ns n) None h)

names_map : (ds : Declarations) → map (λ n. n.name) (map (λ d. d.named) ds) ≡ map (λ d. d.named.name) ds
names_map [] = refl
names_map (d ∷ ds) = ap (λ ns. d.named.name ∷ ns) (names_map ds)

map_last : (ds : Declarations) (d : Declaration) → map (λ d. d.named.name) (ds ++ d ∷ []) ≡ map (λ d. d.named.name) ds ++ d.named.name ∷ []
map_last [] d = refl
map_last (x ∷ ds) d = ap (λ ns. x.named.name ∷ ns) (map_last ds d)

-- one more, with a name that is not declared
pub once_more : (ds : Declarations) (d : Declaration) → Once ds → find_name (map (λ d. d.named) ds) d.named.name ≡ None → Once (ds ++ d ∷ [])
once_more ds d o h =
    let new : In (map (λ d. d.named.name) ds) d.named.name → ⊥ =
    λ m. unfound (map (λ d. d.named) ds) d.named.name h (subst (λ ns. In ns d.named.name) (sym (names_map ds)) m) in
    record { once = subst Distinct (sym (map_last ds d)) (distinct_more (map (λ d. d.named.name) ds) d.named.name o.once new) }
