-- What a name of a list of entries is declared as, where each stands once, and the names with a width or a kind.
use Rattle.std.proofs.Common.{◌≡◌, ℕ, List, [], ◌∷◌, flat_map, Bool, true, false, if◌then◌else◌, refl, sym, ap, ◌∙◌, inl, inr, ⊎_elim, subst}
use Rattle.std.specs.Prelude.{Option, Some, None}
use Rattle.std.specs.Str.{bytes_eq}
use Rattle.std.proofs.lemmas.Option.{none-some}
use Rattle.fir_base.specs.Lists.{In, Distinct}
use Rattle.fir_base.proofs.Members.{in_map, in_flat_map, in_flat_map_from}
use Rattle.fir_base.proofs.SameNames.{name_is, name_same, name_other}
use Rattle.fir_base.proofs.Tests.{chosen as which}
use Rattle.ver_ast.specs.Nets.{SizedNet, Variable}
use Rattle.ver_valid.specs.declared.declared.Declared.{Declared}
use Rattle.ver_valid.specs.declared.declared.Declared.TheVariants.{Array}
use Rattle.ver_valid.specs.working.Declarations.{Entry, entry_names, kind_among}
use Rattle.ver_valid.specs.working.Kinds.{sized_as, sized, chosen, array_of}

-- an entry is found under its name, and what is found is an entry
pub kind_in : (es : List Entry) (n : List ℕ) (d : Declared) → kind_among es n ≡ Some d → In es (n, d)
kind_in [] n d h = absurd (none-some d h)
kind_in (e ∷ es) n d h =
    ⊎_elim
    (λ (c : (bytes_eq n e.0 ≡ true) × (Some e.1 ≡ Some d)). let name : n ≡ e.0 = name_is n e.0 c.0 in let kind : e.1 ≡ d = cc in
    inl (ap (λ (x : List ℕ). (x, e.1)) (sym name) ∙ ap (λ (x : Declared). (n, x)) kind))
    (λ (c : (bytes_eq n e.0 ≡ false) × (kind_among es n ≡ Some d)). inr (kind_in es n d c.1))
    (which (bytes_eq n e.0) (Some e.1) (kind_among es n) (Some d) h)

pub kind_of_entry : (es : List Entry) → Distinct (entry_names es) → (n : List ℕ) (d : Declared) → In es (n, d) → kind_among es n ≡ Some d
kind_of_entry [] once n d m = absurd m
kind_of_entry (e ∷ es) once n d (inl s) =
    let name : n ≡ e.0 = ap (λ (x : Entry). x.0) (sym s) in
    let kind : e.1 ≡ d = ap (λ (x : Entry). x.1) s in
    let same : bytes_eq n e.0 ≡ true = ap (bytes_eq n) (sym name) ∙ name_same n in
    rw same (ap (λ (x : Declared). Some x) kind)
kind_of_entry (e ∷ es) once n d (inr m) =
    let other : bytes_eq n e.0 ≡ false =
    name_other n e.0 (λ s. once.0 (subst (In (entry_names es)) s (in_map (λ (x : Entry). x.0) es (n, d) m))) in
    rw other (kind_of_entry es once.1 n d m)

-- a name has a kind, or it has none
pub known_or_not : (es : List Entry) (n : List ℕ) → In (entry_names es) n → kind_among es n ≡ None → ⊥
known_or_not [] n m h = m
known_or_not (e ∷ es) n (inl s) h =
    let same : bytes_eq n e.0 ≡ true = ap (bytes_eq n) s ∙ name_same n in
    none-some e.1 (sym h ∙ rw same refl)
known_or_not (e ∷ es) n (inr m) h =
    ⊎_elim
    (λ (c : (bytes_eq n e.0 ≡ true) × (Some e.1 ≡ None)). none-some e.1 (sym c.1))
    (λ (c : (bytes_eq n e.0 ≡ false) × (kind_among es n ≡ None)). known_or_not es n m c.1)
    (which (bytes_eq n e.0) (Some e.1) (kind_among es n) None h)

-- the one name of an entry that has a width
pub in_sized : (n : List ℕ) (o : Option ℕ) (m : List ℕ) (w : ℕ) → In (sized_as n o) (m, w) → (n ≡ m) × (o ≡ Some w)
in_sized n None m w i = absurd i
in_sized n (Some x) m w (inl e) = (ap (λ (y : SizedNet). y.0) e, ap (λ (y : SizedNet). Some y.1) e)
in_sized n (Some x) m w (inr i) = absurd i

sized_in : (n : List ℕ) (o : Option ℕ) (w : ℕ) → o ≡ Some w → In (sized_as n o) (n, w)
sized_in n None w e = absurd (none-some w e)
sized_in n (Some x) w e = let same : x ≡ w = cc in inl (ap (λ (y : ℕ). (n, y)) same)

module _ (width : Declared → Option ℕ) (es : List Entry) (once : Distinct (entry_names es)) (n : List ℕ) where
  abbrev pub Sized : ℕ → Type 0
  Sized w = In (flat_map (sized width) es) (n, w)

  pub sized_kind : (w : ℕ) → Sized w → (d : Declared) × (kind_among es n ≡ Some d) × (width d ≡ Some w)
  sized_kind w m =
      let r = in_flat_map_from (sized width) es (n, w) m in
      let s = in_sized r.0.0 (width r.0.1) n w r.2 in
      let entry : In es (n, r.0.1) = subst (λ (x : List ℕ). In es (x, r.0.1)) s.0 r.1 in
      (r.0.1, kind_of_entry es once n r.0.1 entry, s.1)

  pub kind_sized : (d : Declared) (w : ℕ) → kind_among es n ≡ Some d → width d ≡ Some w → Sized w
  kind_sized d w k e = in_flat_map (sized width) es (n, d) (n, w) (kind_in es n d k) (sized_in n (width d) w e)

  -- a name of some kind has one width, and only if its kind has one
  pub sized_by : (d : Declared) (w : ℕ) → kind_among es n ≡ Some d → Sized w → width d ≡ Some w
  sized_by d w k m =
      let r = sized_kind w m in
      let same : r.0 ≡ d = cc in
      ap width (sym same) ∙ r.2

  pub one_size : (d : Declared) (w u : ℕ) → kind_among es n ≡ Some d → width d ≡ Some w → Sized u → u ≡ w
  one_size d w u k e m = let other : width d ≡ Some u = sized_by d u k m in cc

  pub not_sized : (d : Declared) → kind_among es n ≡ Some d → width d ≡ None → (w : ℕ) → Sized w → ⊥
  not_sized d k e w m = none-some w (sym e ∙ sized_by d w k m)

  pub not_known : kind_among es n ≡ None → (w : ℕ) → Sized w → ⊥
  not_known k w m = let r = sized_kind w m in none-some r.0 (sym k ∙ r.1)

pub in_chosen : (n : List ℕ) (b : Bool) (m : List ℕ) → In (if b then n ∷ [] else []) m → (n ≡ m) × (b ≡ true)
in_chosen n true m (inl e) = (e, refl)
in_chosen n true m (inr i) = absurd i
in_chosen n false m i = absurd i

module _ (test : Declared → Bool) (es : List Entry) (once : Distinct (entry_names es)) (n : List ℕ) where
  abbrev pub Chosen : Type 0
  Chosen = In (flat_map (chosen test) es) n

  pub chosen_kind : Chosen → (d : Declared) × (kind_among es n ≡ Some d) × (test d ≡ true)
  chosen_kind m =
      let r = in_flat_map_from (chosen test) es n m in
      let s = in_chosen r.0.0 (test r.0.1) n r.2 in
      let entry : In es (n, r.0.1) = subst (λ (x : List ℕ). In es (x, r.0.1)) s.0 r.1 in
      (r.0.1, kind_of_entry es once n r.0.1 entry, s.1)

  pub kind_chosen : (d : Declared) → kind_among es n ≡ Some d → test d ≡ true → Chosen
  kind_chosen d k e = in_flat_map (chosen test) es (n, d) n (kind_in es n d k) (rw e (inl refl))

  pub chosen_by : (d : Declared) → kind_among es n ≡ Some d → Chosen → test d ≡ true
  chosen_by d k m =
      let r = chosen_kind m in
      let same : r.0 ≡ d = cc in
      ap test (sym same) ∙ r.2

  pub not_chosen : kind_among es n ≡ None → Chosen → ⊥
  not_chosen k m = let r = chosen_kind m in none-some r.0 (sym k ∙ r.1)

-- an array has the name of its entry
pub in_array : (n : List ℕ) (d : Declared) (k : Variable) → In (array_of n d) k → k.name ≡ n
in_array n (Array x last) k (inl e) = ap (λ (y : Variable). y.name) (sym e)
in_array n (Array x last) k (inr i) = absurd i
in_array n _ k i = absurd i
