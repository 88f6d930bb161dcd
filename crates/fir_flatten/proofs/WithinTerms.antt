-- Moved terms and roles read leaves of the whole, where the leaves of the module stand there.
use Rattle.std.proofs.Common.{◌≡◌, ℕ, ◌<◌, length, Option, Some, None, option_map, subst, arith}
use Rattle.fir_base.specs.Lists.{In}
use Rattle.fir_base.proofs.Members.{in_map_from}
use Rattle.fir_meaning.specs.working.LeafModules.{LeafModule, LeafReset, Role, computed, pipe, reading, register, sink, source}
use Rattle.fir_meaning.specs.working.Numberings.{Numbering, moved, moved_picks, moved_reset, moved_role, moved_terms, number}
use Rattle.fir_meaning.specs.working.TermReads.{reached}
use Rattle.fir_meaning.specs.working.Terms.{Term, zeros, absent, literal, read, operation, mux, validif, Picks, no_picks, pick, Terms, no_terms, term}
use Rattle.fir_leaf.specs.working.LeafNumbers.{AllBelow, PicksWithin, TermWithin, TermsWithin}
use Rattle.fir_leaf.specs.working.SoundDesigns.{IsRead, last_of}
use Rattle.fir_design_faults.proofs.AllTerms.{AllPicksIn, AllTermIn, AllTermsIn, MayResetReads, RoleReads}
use Rattle.fir_design_faults.proofs.MovedReads.{reached_moved, within_read}
use Rattle.fir_flat.specs.working.WholeRoles.{IsResetWithin, IsRoleWithin}

first_below : (b : ℕ) (ps : Picks) (k : ℕ) → last_of b ps < k → b < k
first_below b no_picks k lt = lt
first_below b (pick ps p i c each) k lt = first_below b ps k (omega (arith, lt))

module _ (n : Numbering) (m : LeafModule) (ports : n.ports ≡ m.port_leaves) (count : ℕ) (stands : (x : ℕ) → x < length m.leaves → number n x < count) where
  reached_within : (b : ℕ) (ps : Picks) → IsRead m b ps → AllBelow count (reached (number n b) (moved_picks n ps))
  reached_within b ps r k among =
      let z = in_map_from (number n) (reached b ps) k (subst (λ ys. In ys k) (reached_moved n m ports b ps r) among) in
      subst (λ y. y < count) z.2 (stands z.0 (within_read n m ports b ps r z.0 z.1))

  mutual
    pub term_within : (t : Term) → AllTermIn m t → TermWithin count (moved n t)
    term_within zeros a = tt
    term_within (absent t ps) a = picks_within ps a
    term_within (literal l) a = tt
    term_within (read b ps) a = (stands b (first_below b ps (length m.leaves) a.0.within), picks_within ps a.1, reached_within b ps a.0)
    term_within (operation op ts ks) a = terms_within ts a
    term_within (mux c a b) r = (term_within c r.0, term_within a r.1, term_within b r.2)
    term_within (validif c a) r = (term_within c r.0, term_within a r.1)

    picks_within : (ps : Picks) → AllPicksIn m ps → PicksWithin count (moved_picks n ps)
    picks_within no_picks a = tt
    picks_within (pick ps p i c each) a = (picks_within ps a.0, term_within i a.1)

    terms_within : (ts : Terms) → AllTermsIn m ts → TermsWithin count (moved_terms n ts)
    terms_within no_terms a = tt
    terms_within (term t ts) a = (term_within t a.0, terms_within ts a.1)

  -- roles
  reset_within : (r : Option LeafReset) → MayResetReads m r → IsResetWithin count (option_map (moved_reset n) r)
  reset_within None a = tt
  reset_within (Some r) a = (term_within r.condition a.condition, term_within r.init a.init)

  pub role_within : (array : ℕ) (r : Role) → RoleReads m r → IsRoleWithin count (moved_role n array r)
  role_within array source a = tt
  role_within array sink a = tt
  role_within array (computed t) a = term_within t a
  role_within array (register c r) a = (term_within c a.0, reset_within r a.1)
  role_within array (reading r) a = tt
  role_within array (pipe r x u) a = tt
