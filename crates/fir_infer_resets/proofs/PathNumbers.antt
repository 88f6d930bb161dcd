-- The number of a leaf, by the place of its declaration.
use Rattle.std.proofs.Common.{◌≡◌, ℕ, zero, suc, ◌+◌, List, [], ◌∷◌, map, Bool, true, false, if◌then◌else◌, Option, Some, None, refl, sym, ap, ◌∙◌, arith}
use Rattle.std.specs.Prelude.{option_map, slice_get, unwrap_or}
use Rattle.std.specs.Str.{bytes_eq}
use Rattle.std.proofs.lemmas.Option.{none-some, same_Some, slice_get-map}
use Rattle.fir_ast.specs.Types.{DataType}
use Rattle.fir_ast.specs.Statements.{PlacedName}
use Rattle.fir_ast.specs.Circuits.{ModuleTree, CircuitTree}
use Rattle.fir_meaning.specs.Components.{Declarations}
use Rattle.fir_meaning.specs.ComponentTypes.{typed_scope}
use Rattle.fir_meaning.specs.LeafPaths.{LeafPath, named}
use Rattle.fir_meaning.specs.TypedScopes.{Known, TypedScope, known}
use Rattle.fir_meaning.specs.Visibility.{declarations}
use Rattle.fir_names.specs.declared.declaration.Declaration.{Declaration as Entry}
use Rattle.fir_names.specs.working.Tabulated.{entry_named, entry_of}
use Rattle.fir_type_table.specs.working.Saturated.{saturated}
use Rattle.fir_types.specs.working.Notes.{position_of}
use Rattle.fir_types.specs.working.TypedModules.{at_position, leaf_declared, type_declared}
use Rattle.fir_types.proofs.KnownScopes.{Heads, heads_of}
use Rattle.fir_reset.specs.working.Inferred.{leaf_number, number_behind, number_in}
use Rattle.fir_reset.specs.working.LeafClasses.{offset_in, offset_where}
use Rattle.fir_infer_resets.specs.working.NumberedPaths.{position_known}
use Rattle.fir_meaning.specs.ResetItems.{leaf_item}
use Rattle.fir_meaning.specs.ResetJoins.{type_of_known}

-- the place of what has a name, among declarations behind so many
entry_position : (ns : List PlacedName) (i : ℕ) (ds : Declarations) (ks : TypedScope) (x : List ℕ) → Heads ds ks
    → option_map (λ e. e.position) (entry_named ns i ds x) ≡ option_map (λ k. i + position_of ks x) (known ks x)
entry_position ns i [] [] x h = refl
entry_position ns i [] (k ∷ ks) x h = absurd h
entry_position ns i (d ∷ ds) [] x h = absurd h
entry_position ns i (d ∷ ds) (k ∷ ks) x h =
    by (bytes_eq d.named.name x) (entry_position ns (suc i) ds ks x h.2)
    ∙ ap (λ n. option_map (λ y. i + (if bytes_eq n x then zero else suc (position_of ks x))) (if bytes_eq n x then Some k else known ks x)) (sym h.0)
  where
    further : (o : Option Known) (j : ℕ) → option_map (λ y. suc i + j) o ≡ option_map (λ y. i + suc j) o
    further None j = refl
    further (Some y) j = ap Some (let e : suc i + j ≡ i + suc j = omega arith in e)

    by : (b : Bool) → option_map (λ e. e.position) (entry_named ns (suc i) ds x) ≡ option_map (λ k. suc i + position_of ks x) (known ks x)
        → option_map (λ (e : Entry). e.position) (if b then Some (entry_of ns i d) else entry_named ns (suc i) ds x)
        ≡ option_map (λ (y : Known). i + (if b then zero else suc (position_of ks x))) (if b then Some k else known ks x)
    by true e = ap Some (let z : i ≡ i + 0 = omega arith in z)
    by false e = e ∙ further (known ks x) (position_of ks x)

-- as the code finds it
pub found_position : (ns : List PlacedName) (modules : List ModuleTree) (m : ModuleTree) (x : List ℕ) (o : Option Entry) → o ≡ entry_named ns 0 (declarations m) x
    → option_map (λ e. e.position) o ≡ position_known (typed_scope modules (declarations m)) x
found_position ns modules m x o is =
    ap (option_map (λ e. e.position)) is ∙ entry_position ns 0 (declarations m) (typed_scope modules (declarations m)) x (heads_of modules (declarations m))
    ∙ by (known (typed_scope modules (declarations m)) x) (position_of (typed_scope modules (declarations m)) x)
  where
    by : (o : Option Known) (j : ℕ) → option_map (λ k. 0 + j) o ≡ option_map (λ k. j) o
    by None j = refl
    by (Some k) j = ap Some (let e : 0 + j ≡ j = omega arith in e)

-- what stands at the place of a name
at_known : (ks : TypedScope) (x : List ℕ) → at_position (map (λ k. k.data_type) ks) (position_of ks x) ≡ type_of_known (known ks x)
at_known [] x = refl
at_known (k ∷ ks) x = by (bytes_eq k.name x) (at_known ks x)
  where
    by : (b : Bool) → at_position (map (λ k. k.data_type) ks) (position_of ks x) ≡ type_of_known (known ks x)
        → at_position (k.data_type ∷ map (λ k. k.data_type) ks) (if b then zero else suc (position_of ks x)) ≡ type_of_known (if b then Some k else known ks x)
    by true h = refl
    by false h = h

no_number : (o : Option ℕ) → number_behind o None ≡ None
no_number None = refl
no_number (Some k) = refl

module _ (c : CircuitTree) (number position : ℕ) (x : List ℕ) where
  type_there : (m : ModuleTree) → slice_get c.modules number ≡ Some m
      → type_declared c number position ≡ at_position (map (λ k. k.data_type) (typed_scope c.modules (declarations m))) position
  type_there m is =
      ap (λ o. at_position (unwrap_or o []) position)
      (slice_get-map (λ y. map (λ k. k.data_type) (typed_scope c.modules (declarations y))) c.modules number
      ∙ ap (option_map (λ y. map (λ k. k.data_type) (typed_scope c.modules (declarations y)))) is)

  no_type : slice_get c.modules number ≡ None → type_declared c number position ≡ None
  no_type is =
      ap (λ o. at_position (unwrap_or o []) position)
      (slice_get-map (λ y. map (λ k. k.data_type) (typed_scope c.modules (declarations y))) c.modules number
      ∙ ap (option_map (λ y. map (λ k. k.data_type) (typed_scope c.modules (declarations y)))) is)

  is_position : (ks : TypedScope) → Some position ≡ position_known ks x → position ≡ position_of ks x
  is_position ks is = by (known ks x) is
    where
      by : (o : Option Known) → Some position ≡ option_map (λ k. position_of ks x) o → position ≡ position_of ks x
      by None h = absurd (none-some position (sym h))
      by (Some k) h = same_Some position (position_of ks x) h

  pub number_is : (rest : LeafPath) → ((m : ModuleTree) → slice_get c.modules number ≡ Some m → Some position ≡ position_known (typed_scope c.modules (declarations m)) x)
      → leaf_number c (leaf_item number (named x ∷ rest)) ≡ number_behind (leaf_declared c number position) (offset_where (type_declared c number position) rest)
  number_is rest at = by (slice_get c.modules number) refl
    where
      by : (o : Option ModuleTree) → slice_get c.modules number ≡ o
          → number_in c number o (named x ∷ rest) ≡ number_behind (leaf_declared c number position) (offset_where (type_declared c number position) rest)
      by None is = sym (ap (λ t. number_behind (leaf_declared c number position) (offset_where t rest)) (no_type is) ∙ no_number (leaf_declared c number position))
      by (Some m) is =
          let ks = typed_scope c.modules (declarations m) in
          let place = is_position ks (at m is) in
          let same : type_declared c number position ≡ type_of_known (known ks x) = type_there m is ∙ ap (at_position (map (λ k. k.data_type) ks)) place ∙ at_known ks x in
          sym (ap (λ t. number_behind (leaf_declared c number position) (offset_where t rest)) same
          ∙ ap (λ p. number_behind (leaf_declared c number p) (offset_where (type_of_known (known ks x)) rest)) place)

-- sums that stand still
abbrev sum_of : Option ℕ → Option ℕ → Option ℕ
sum_of None b = None
sum_of (Some a) None = None
sum_of (Some a) (Some b) = Some (saturated (a + b))

no_sum : (a : Option ℕ) → sum_of a None ≡ None
no_sum None = refl
no_sum (Some k) = refl

behind_sum : (a b : Option ℕ) → option_map saturated (number_behind a b) ≡ sum_of (option_map saturated a) (option_map saturated b)
behind_sum None b = refl
behind_sum (Some j) None = refl
behind_sum (Some j) (Some k) = ap Some (let e : saturated (j + k) ≡ saturated (saturated j + saturated k) = omega arith in e)

-- the number by what the code has found: where it has found nothing there is none
module _ (c : CircuitTree) (number position : ℕ) (x : List ℕ) (rest : LeafPath)
    (at : (m : ModuleTree) → slice_get c.modules number ≡ Some m → Some position ≡ position_known (typed_scope c.modules (declarations m)) x) where
  sum_is : option_map saturated (leaf_number c (leaf_item number (named x ∷ rest)))
      ≡ sum_of (option_map saturated (leaf_declared c number position)) (option_map saturated (offset_where (type_declared c number position) rest))
  sum_is =
      ap (option_map saturated) (number_is c number position x rest at)
      ∙ behind_sum (leaf_declared c number position) (offset_where (type_declared c number position) rest)

  pub no_type_number : None ≡ type_declared c number position → None ≡ option_map saturated (leaf_number c (leaf_item number (named x ∷ rest)))
  no_type_number is =
      sym (sum_is ∙ ap (λ t. sum_of (option_map saturated (leaf_declared c number position)) (option_map saturated (offset_where t rest))) (sym is)
      ∙ no_sum (option_map saturated (leaf_declared c number position)))

  pub no_first_number : None ≡ option_map saturated (leaf_declared c number position) → None ≡ option_map saturated (leaf_number c (leaf_item number (named x ∷ rest)))
  no_first_number is = sym (sum_is ∙ ap (λ o. sum_of o (option_map saturated (offset_where (type_declared c number position) rest))) (sym is))

  module _ (t : DataType) (typed : Some t ≡ type_declared c number position) where
    typed_sum : option_map saturated (leaf_number c (leaf_item number (named x ∷ rest)))
        ≡ sum_of (option_map saturated (leaf_declared c number position)) (option_map saturated (offset_in t rest))
    typed_sum = sum_is ∙ ap (λ o. sum_of (option_map saturated (leaf_declared c number position)) (option_map saturated (offset_where o rest))) (sym typed)

    pub no_offset_number : None ≡ option_map saturated (offset_in t rest) → None ≡ option_map saturated (leaf_number c (leaf_item number (named x ∷ rest)))
    no_offset_number is =
        sym (typed_sum ∙ ap (sum_of (option_map saturated (leaf_declared c number position))) (sym is)
        ∙ no_sum (option_map saturated (leaf_declared c number position)))

    pub the_number : (before first sum : ℕ) → Some before ≡ option_map saturated (offset_in t rest) → Some first ≡ option_map saturated (leaf_declared c number position)
        → sum ≡ saturated (first + before) → Some sum ≡ option_map saturated (leaf_number c (leaf_item number (named x ∷ rest)))
    the_number before first sum offset leaf is =
        ap Some is ∙ ap (λ o. sum_of o (Some before)) leaf ∙ ap (sum_of (option_map saturated (leaf_declared c number position))) offset ∙ sym typed_sum
