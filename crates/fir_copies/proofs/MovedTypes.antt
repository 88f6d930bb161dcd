-- Moved terms and roles have the types that they have in the module, where the leaves of the module hold in the whole what they hold there.
use Rattle.std.proofs.Common.{◌≡◌, ℕ, ◌<◌, ◌≤◌, List, [], ◌∷◌, length, Option, Some, None, option_map, refl, sym, ap, ◌∙◌, subst, inl, inr, ⊎_elim, arith}
use Rattle.fir_base.specs.Lists.{In}
use Rattle.fir_base.proofs.Members.{in_map_from}
use Rattle.fir_bits.specs.declared.types.NumTy.{NumTy}
use Rattle.fir_meaning.specs.LeafTypes.{LeafType}
use Rattle.fir_meaning.specs.working.LeafModules.{LeafModule, LeafReset, Role, computed, pipe, reading, register, sink, source}
use Rattle.fir_meaning.specs.working.Numberings.{Numbering, moved, moved_picks, moved_reset, moved_role, moved_terms, number}
use Rattle.fir_meaning.specs.working.TermReads.{reached}
use Rattle.fir_meaning.specs.working.Terms.{Term, zeros, absent, literal, read, operation, mux, validif, Picks, no_picks, pick, Terms, no_terms, term}
use Rattle.fir_leaf.specs.working.SoundDesigns.{IsRead, last_of}
use Rattle.fir_leaf_types.specs.working.TypedBlocks.{MayGive}
use Rattle.fir_leaf_types.specs.working.TypedModules.{IsResetTyped, IsRoleTyped}
use Rattle.fir_leaf_types.specs.working.TypedTerms.{AreAlike, AreIndices, HasType, HaveTypes}
use Rattle.fir_design_faults.proofs.AllTerms.{AllPicksIn, AllTermIn, AllTermsIn, MayResetReads, RoleReads}
use Rattle.fir_design_faults.proofs.MovedReads.{reached_moved, within_read}

first_of_read : (b : ℕ) (ps : Picks) → b ≤ last_of b ps
first_of_read b no_picks = omega arith
first_of_read b (pick ps p i c each) = let e : b ≤ last_of b ps = first_of_read b ps in omega (arith, e)

moved_zeros : (n : Numbering) (t : Term) → moved n t ≡ zeros → t ≡ zeros
moved_zeros n zeros e = refl
moved_zeros n (absent t ps) e = absurd (cc)
moved_zeros n (literal l) e = absurd (cc)
moved_zeros n (read b ps) e = absurd (cc)
moved_zeros n (operation op ts ks) e = absurd (cc)
moved_zeros n (mux c a b) e = absurd (cc)
moved_zeros n (validif c a) e = absurd (cc)

module _ (n : Numbering) (m : LeafModule) (ports : n.ports ≡ m.port_leaves) (outer inner : ℕ → LeafType)
    (same : (x : ℕ) → x < length m.leaves → outer (number n x) ≡ inner x) where
  pub leaf_moved : (b : ℕ) (ps : Picks) → IsRead m b ps → outer (number n b) ≡ inner b
  leaf_moved b ps r = same b (omega (arith, first_of_read b ps, r.within))

  pub alike_moved : (b : ℕ) (ps : Picks) (t : LeafType) → IsRead m b ps → AreAlike inner (reached b ps) t
      → AreAlike outer (reached (number n b) (moved_picks n ps)) t
  alike_moved b ps t r h k among =
      let z = in_map_from (number n) (reached b ps) k (subst (λ ys. In ys k) (reached_moved n m ports b ps r) among) in
      ap outer (sym z.2) ∙ same z.0 (within_read n m ports b ps r z.0 z.1) ∙ h z.0 z.1

  mutual
    pub typed_moved : (t : Term) (u : LeafType) → AllTermIn m t → HasType inner t u → HasType outer (moved n t) u
    typed_moved zeros u a h = absurd h
    typed_moved (absent t ps) u a h = (h.0, h.1, indices_moved ps a h.2)
    typed_moved (literal l) u a h = h
    typed_moved (read b ps) u a h = (leaf_moved b ps a.0 ∙ h.0, h.1, alike_moved b ps u a.0 h.2, indices_moved ps a.1 h.3)
    typed_moved (operation op ts ks) u a h = (h.0, h.1, each_moved ts h.0 a h.2, h.3, h.4)
    typed_moved (mux c a b) u r h = (typed_moved c _ r.0 h.0, h.1, h.2, typed_moved a _ r.1 h.3, typed_moved b _ r.2 h.4, h.5, h.6)
    typed_moved (validif c a) u r h = (typed_moved c _ r.0 h.0, h.1, typed_moved a _ r.1 h.2, h.3)

    each_moved : (ts : Terms) (us : List NumTy) → AllTermsIn m ts → HaveTypes inner ts us → HaveTypes outer (moved_terms n ts) us
    each_moved no_terms [] a h = tt
    each_moved no_terms (u ∷ us) a h = absurd h
    each_moved (term t ts) [] a h = absurd h
    each_moved (term t ts) (u ∷ us) a h = (typed_moved t _ a.0 h.0, each_moved ts us a.1 h.1)

    pub indices_moved : (ps : Picks) → AllPicksIn m ps → AreIndices inner ps → AreIndices outer (moved_picks n ps)
    indices_moved no_picks a h = tt
    indices_moved (pick ps p i c each) a h = (indices_moved ps a.0 h.0, h.1, typed_moved i _ a.1 h.2)

  pub may_give_moved : (e : Term) (t : LeafType) → AllTermIn m e → MayGive inner e t → MayGive outer (moved n e) t
  may_give_moved e t a h = record {
    data_type = h.data_type;
    has =
        ⊎_elim (λ (z : e ≡ zeros). inl (ap (moved n) z)) (λ (y : HasType inner e h.data_type). inr (typed_moved e h.data_type a y)) h.has;
    kind = h.kind;
  }

  -- roles
  reset_typed : (t : LeafType) (r : Option LeafReset) → MayResetReads m r → IsResetTyped inner t r → IsResetTyped outer t (option_map (moved_reset n) r)
  reset_typed t None a h = tt
  reset_typed t (Some r) a h =
      (typed_moved r.condition _ a.condition h.0, may_give_moved r.init t a.init h.1, λ e. h.2 (moved_zeros n r.init e))

  pub role_typed : (array : ℕ) (t : LeafType) (r : Role) → RoleReads m r → IsRoleTyped inner t r → IsRoleTyped outer t (moved_role n array r)
  role_typed array t source a h = tt
  role_typed array t sink a h = tt
  role_typed array t (computed e) a h = typed_moved e t a h
  role_typed array t (register c r) a h = (h.0, typed_moved c _ a.0 h.1, reset_typed t r a.1 h.2)
  role_typed array t (reading r) a h = tt
  role_typed array t (pipe r x u) a h = tt
