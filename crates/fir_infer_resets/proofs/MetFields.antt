-- What meets of two bundles, member by member.
use Rattle.std.proofs.Common.{◌≡◌, ℕ, zero, suc, ◌+◌, ◌<◌, ◌≤◌, List, [], ◌∷◌, ◌++◌, Bool, true, false, Some, None, length, get_or, refl, inl, inr, ◌⊎◌, ⊎_elim, min, arith, sym, ap, ◌∙◌}
use Rattle.fir_ast.specs.declared.place.Place.{Place}
use Rattle.fir_ast.specs.Types.{DataType, bundle, Fields, no_fields, field}
use Rattle.fir_meaning.specs.LeafPaths.{LeafPath, named}
use Rattle.fir_meaning.specs.TypeKinds.{FieldFound}
use Rattle.fir_meaning.specs.Equivalence.{met}
use Rattle.fir_meaning.specs.Reaching.{field_of_type}
use Rattle.fir_type_table.specs.declared.entry.Member.{Member}
use Rattle.fir_type_table.specs.working.Tables.{type_at, shown, shown_fields}
use Rattle.fir_type_table.proofs.MemberLists.{members_from, members_next, members_end}
use Rattle.fir_infer_resets.specs.working.FirstPairs.{first_pairs, first_field_pairs, first_partial_pairs, first_partial_fields, partial_fields_met, met_pairs}

shown_more : (is_bare : Bool) (p : Place) (f : Bool) (n : List ℕ) (b : Place) (t : DataType) (rest : Fields)
    → shown_fields is_bare (field p f n b t rest) ≡ field p f n b (shown is_bare t) (shown_fields is_bare rest)
shown_more true p f n b t rest = refl
shown_more false p f n b t rest = refl

shown_none : (is_bare : Bool) → shown_fields is_bare no_fields ≡ no_fields
shown_none true = refl
shown_none false = refl

-- the members from a number on, without their widths or with them
abbrev pub shown_from : List DataType → Bool → List Member → ℕ → Fields
shown_from ts x ms i = shown_fields x (members_from ts ms i)

module _ (ts : List DataType) (x : Bool) (ms : List Member) (i : ℕ) where
  shown_next : (m : Member) → i < length ms → m ≡ get_or ms i m
      → shown_from ts x ms i ≡ field m.place m.flip m.name m.type_place (shown x (type_at ts m.ty.number)) (shown_from ts x ms (i + 1))
  shown_next m h e =
      ap (shown_fields x) (members_next ts ms i m h e) ∙ shown_more x m.place m.flip m.name m.type_place (type_at ts m.ty.number) (members_from ts ms (i + 1))

  shown_end : length ms ≤ i → shown_from ts x ms i ≡ no_fields
  shown_end h = ap (shown_fields x) (members_end ts ms i h) ∙ shown_none x

module _ (ts : List DataType) (path : LeafPath) (x y : Bool) (fs gs : List Member) (i : ℕ) where
  pub fields_next : (f g : Member) → i < length fs → f ≡ get_or fs i f → i < length gs → g ≡ get_or gs i g
      → first_field_pairs path (shown_from ts x fs i) (shown_from ts y gs i)
      ≡ first_pairs (path ++ named f.name ∷ []) (shown x (type_at ts f.ty.number)) (shown y (type_at ts g.ty.number))
      ++ first_field_pairs path (shown_from ts x fs (i + 1)) (shown_from ts y gs (i + 1))
  fields_next f g h e k a =
      ap (λ l. first_field_pairs path l (shown_from ts y gs i)) (shown_next ts x fs i f h e)
      ∙ ap (first_field_pairs path (field f.place f.flip f.name f.type_place (shown x (type_at ts f.ty.number)) (shown_from ts x fs (i + 1)))) (shown_next ts y gs i g k a)

  pub fields_end : length fs ≤ i ⊎ length gs ≤ i → first_field_pairs path (shown_from ts x fs i) (shown_from ts y gs i) ≡ []
  fields_end (inl h) = ap (λ l. first_field_pairs path l (shown_from ts y gs i)) (shown_end ts x fs i h)
  fields_end (inr h) = ap (first_field_pairs path (shown_from ts x fs i)) (shown_end ts y gs i h) ∙ none_behind (shown_from ts x fs i)
    where
      none_behind : (ks : Fields) → first_field_pairs path ks no_fields ≡ []
      none_behind no_fields = refl
      none_behind (field p f n b t rest) = refl

module _ (ts : List DataType) (path : LeafPath) (x : Bool) (fs : List Member) (u : DataType) (i : ℕ) where
  -- a field that the right side has too, and one that it has not
  pub partial_next : (f : Member) (g : FieldFound) → i < length fs → f ≡ get_or fs i f → Some g ≡ field_of_type f.name u
      → partial_fields_met path (shown_from ts x fs i) u
      ≡ first_partial_pairs (path ++ named f.name ∷ []) (shown x (type_at ts f.ty.number)) g.data_type ++ partial_fields_met path (shown_from ts x fs (i + 1)) u
  partial_next f g h e found =
      ap (λ l. partial_fields_met path l u) (shown_next ts x fs i f h e)
      ∙ ap (λ o. met [] (λ k. first_partial_pairs (path ++ named f.name ∷ []) (shown x (type_at ts f.ty.number)) k.data_type) o
      ++ partial_fields_met path (shown_from ts x fs (i + 1)) u) (sym found)

  pub partial_over : (f : Member) → i < length fs → f ≡ get_or fs i f → None ≡ field_of_type f.name u
      → partial_fields_met path (shown_from ts x fs i) u ≡ partial_fields_met path (shown_from ts x fs (i + 1)) u
  partial_over f h e found =
      ap (λ l. partial_fields_met path l u) (shown_next ts x fs i f h e)
      ∙ ap (λ o. met [] (λ (k : FieldFound). first_partial_pairs (path ++ named f.name ∷ []) (shown x (type_at ts f.ty.number)) k.data_type) o
      ++ partial_fields_met path (shown_from ts x fs (i + 1)) u) (sym found)

  pub partial_end : length fs ≤ i → partial_fields_met path (shown_from ts x fs i) u ≡ []
  partial_end h = ap (λ l. partial_fields_met path l u) (shown_end ts x fs i h)

-- those of two bundles
pub partial_fields_are : (path : LeafPath) (fs gs : Fields) → partial_fields_met path fs (bundle gs) ≡ first_partial_fields path fs gs
partial_fields_are path no_fields gs = refl
partial_fields_are path (field p f n b t rest) gs =
    ap (λ l. met [] (λ (g : FieldFound). first_partial_pairs (path ++ named n ∷ []) t g.data_type) (field_of_type n (bundle gs)) ++ l) (partial_fields_are path rest gs)

pub partial_bundles : (partly : Bool) (path : LeafPath) (t u v : DataType) (fs gs : Fields) → partly ≡ true → t ≡ bundle fs → u ≡ bundle gs → v ≡ bundle gs
    → partial_fields_met path fs v ≡ met_pairs partly path t u
partial_bundles partly path t u v fs gs p a b d =
    ap (partial_fields_met path fs) d ∙ partial_fields_are path fs gs ∙ ap (first_partial_pairs path (bundle fs)) (sym b) ∙ ap (λ w. first_partial_pairs path w u) (sym a)
    ∙ ap (λ q. met_pairs q path t u) (sym p)

pub min_reached : (n m i : ℕ) → min n m ≤ i → n ≤ i ⊎ m ≤ i
min_reached zero m i h = inl (omega arith)
min_reached (suc n) zero i h = inr (omega arith)
min_reached (suc n) (suc m) zero h = absurd (omega (arith, h))
min_reached (suc n) (suc m) (suc i) h =
    ⊎_elim (λ (a : n ≤ i). inl (omega (arith, a))) (λ (b : m ≤ i). inr (omega (arith, b))) (min_reached n m i (omega (arith, h)))
