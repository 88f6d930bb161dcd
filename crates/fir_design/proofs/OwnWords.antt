-- The words of one declaration of a module, by their numbers in the whole design and by their paths.
use Rattle.std.proofs.Common.{◌≡◌, ℕ, suc, ◌+◌, ◌-◌, ◌≤◌, List, [], ◌∷◌, ◌++◌, Bool, true, false, ◌&&◌, map, filter, length, slice_get, nat_eq, Some, refl, sym, ap, ap₂, ◌∙◌, arith, true≢false}
use Rattle.std.proofs.lemmas.Bool.{and_parts, eq-eqb, eqb-true}
use Rattle.std.proofs.lemmas.Simd.{map-map}
use Rattle.fir_base.specs.Lists.{In}
use Rattle.fir_base.proofs.Elements.{get_behind}
use Rattle.fir_meaning.specs.LeafPaths.{LeafPath}
use Rattle.fir_meaning.specs.working.LeafModules.{LeafArray, LeafDeclared, LeafModule}
use Rattle.fir_meaning.specs.working.Numberings.{Numbering, number}
use Rattle.fir_meaning.specs.LeafTypes.{has_bits}
use Rattle.fir_meaning.specs.working.StateWalks.{own_words}
use Rattle.fir_meaning.specs.working.StateWalks as over
use Rattle.fir_leaf.proofs.FlatPlaces.{At, at_right}
use Rattle.fir_leaf.proofs.MovedTerms.{number_own}
use Rattle.fir_design.specs.working.SameRoles.{SameLeaves}
use Rattle.fir_meaning.specs.SourceCircuits.{PlacedLeaf, is_state, is_state_word, placed, role_within, within}
use Rattle.fir_meaning.specs.SourceRoles.{SourceLeaf, SourceRole, computed, pipe, reading, register, sink, source}
use Rattle.fir_design.proofs.ChosenNumbers.{AreChosen, chosen_same}
use Rattle.fir_design.proofs.DeclaredRuns.{StandsAlone, own_numbers}
use Rattle.fir_design.proofs.LeafRuns.{declaration_of}
use Rattle.fir_design.proofs.RoleKinds.{same_state}

-- what stands at a number
pub at_first : {A : Type 0} (all : List A) (b : ℕ) (x : A) (xs : List A) → At all b (x ∷ xs) → slice_get all b ≡ Some x
at_first all b x xs h =
    ap (slice_get all) (sym h.long) ∙ ap (λ zs. slice_get zs (length h.before)) h.is ∙ get_behind h.before (xs ++ h.after) x

-- what shows state is driven by nothing else within an instance either
state_kept : (r : SourceRole) → is_state r ≡ true → role_within r ≡ r
state_kept source e = absurd (true≢false (sym e))
state_kept sink e = refl
state_kept (computed scope x q) e = refl
state_kept (register scope clock reset q) e = refl
state_kept (reading r) e = refl
state_kept (pipe r clock under_write) e = refl

abbrev pub is_word_leaf : LeafDeclared → Bool
is_word_leaf l = over.is_state l.role && has_bits l.holds

module _ (leaves : List LeafDeclared) (arrays : List LeafArray) (all : List PlacedLeaf) (at : LeafPath) (n : Numbering) where
  words_chosen : (xs : List LeafDeclared) (us : List SourceLeaf) (b g : ℕ) → SameLeaves leaves arrays xs us → n.ports ≤ b → g ≡ n.own +
      (b - n.ports)
      → At all g (placed at (map within us)) → AreChosen is_word_leaf is_state_word (λ x. slice_get all (number n x)) Some b xs (placed at us)
  words_chosen [] [] b g h le e a = tt
  words_chosen [] (u ∷ us) b g h le e a = absurd h
  words_chosen (x ∷ xs) [] b g h le e a = absurd h
  words_chosen (x ∷ xs) (u ∷ us) b g h le e a =
      let here : number n b ≡ g = number_own n b le ∙ sym e in
      let first : PlacedLeaf = record { at = at; leaf = within u } in (
        record {
          same = ap₂ (λ r t. r && has_bits t) (same_state leaves arrays x.role u.role h.0.2) h.0.1;
          named = λ w.
              ap (slice_get all) here ∙ at_first all g first (placed at (map within us)) a
              ∙ ap (λ r. Some (record { at = at; leaf = record u { role = r } }))
              (state_kept u.role (and_parts (is_state u.role) (has_bits u.holds) w).0);
        },
        words_chosen xs us (suc b) (g + 1) h.1 (omega (arith, le)) (omega (arith, le, e))
            (at_right all (first ∷ []) (placed at (map within us)) g a),
      )

  -- those of one declaration
  pub own_words_are : (m : LeafModule) (from b : ℕ) (xs : List LeafDeclared) (us : List SourceLeaf)
      → StandsAlone declaration_of m.leaves from (from + 1) b xs
      → ((l : LeafDeclared) → In xs l → l.declaration ≡ from) → SameLeaves leaves arrays xs us → n.ports ≤ b
      → At all (n.own + (b - n.ports)) (placed at (map within us))
      → map (slice_get all) (map (number n) (own_words m from)) ≡ map Some (filter is_state_word (placed at us))
  own_words_are m from b xs us alone own same le a =
      map-map (slice_get all) (number n) (own_words m from)
      ∙ ap (map (λ x. slice_get all (number n x)))
      (own_numbers declaration_of m.leaves (λ (l : LeafDeclared). nat_eq l.declaration from && over.is_state l.role && has_bits l.holds) is_word_leaf
      from b xs alone other mine own)
      ∙ chosen_same is_word_leaf is_state_word (λ x. slice_get all (number n x)) Some b xs (placed at us)
      (words_chosen xs us b (n.own + (b - n.ports)) same le refl a)
    where
      mine : (l : LeafDeclared) → l.declaration ≡ from
          → (nat_eq l.declaration from && over.is_state l.role && has_bits l.holds) ≡ (over.is_state l.role && has_bits l.holds)
      mine l e = ap (λ t. t && over.is_state l.role && has_bits l.holds) (eq-eqb l.declaration from e)

      other : (l : LeafDeclared) → (l.declaration ≡ from → ⊥) →
          (nat_eq l.declaration from && over.is_state l.role && has_bits l.holds) ≡ false
      other l apart = go (nat_eq l.declaration from) refl
        where
          go : (t : Bool) → nat_eq l.declaration from ≡ t → (t && over.is_state l.role && has_bits l.holds) ≡ false
          go true e = absurd (apart (eqb-true l.declaration from e))
          go false e = refl
