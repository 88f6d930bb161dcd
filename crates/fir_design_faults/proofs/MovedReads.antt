-- What indices may pick, and what terms read, over moved numbers is what they do over the module's numbers, moved.
use Rattle.std.proofs.Common.{◌≡◌, ℕ, zero, suc, ◌+◌, ◌*◌, ◌-◌, ◌<◌, ◌≤◌, List, [], ◌∷◌, ◌++◌, map, flat_map, length, refl, sym, ap, ap₂, ◌∙◌, inl, inr, arith, mul-le-mul_right}
use Rattle.std.proofs.lemmas.List.{map-append}
use Rattle.fir_base.specs.Lists.{In}
use Rattle.fir_base.proofs.Members.{in_flat_map_from}
use Rattle.fir_meaning.specs.LeafPaths.{LeafPath}
use Rattle.fir_meaning.specs.working.LeafModules.{LeafModule}
use Rattle.fir_meaning.specs.working.Numberings.{Numbering, moved, moved_picks, moved_terms, number}
use Rattle.fir_meaning.specs.working.TermReads.{each_read, is_picked, multiples, picks_read, reached, reads}
use Rattle.fir_meaning.specs.working.Terms.{Term, zeros, absent, literal, read, operation, mux, validif, Picks, no_picks, pick, Terms, no_terms, term}
use Rattle.fir_leaf.specs.working.SoundDesigns.{IsRead, last_of}
use Rattle.fir_design_faults.proofs.AllTerms.{AllPicksIn, AllTermIn, AllTermsIn}
use Rattle.fir_leaf.proofs.MovedTerms.{number_more, shorter}

-- what an index may pick is one of the elements
pub from_multiples : (k n each y : ℕ) → In (multiples k n each) y → (i : ℕ) × (i < n) × (y ≡ k + i * each)
unfolding multiples
from_multiples k zero each y m = absurd m
from_multiples k (suc n) each y (inl e) = (0, omega arith, omega (arith, e))
from_multiples k (suc n) each y (inr m) = let r = from_multiples (k + each) n each y m in (suc r.0, omega arith, r.2 ∙ grind arith)

-- all that may be picked stands between the first and the last
pub reached_between : (b : ℕ) (ps : Picks) (y : ℕ) → In (reached b ps) y → (b ≤ y) × (y ≤ last_of b ps)
reached_between b no_picks y (inl e) = (omega (arith, e), omega (arith, e))
reached_between b no_picks y (inr m) = absurd m
reached_between b (pick ps p i n each) y m =
    let from = in_flat_map_from (λ k. multiples k n each) (reached b ps) y m in
    let at = from_multiples from.0 n each y from.2 in
    let before = reached_between b ps from.0 from.1 in
    let room : at.0 * each ≤ (n - 1) * each = mul-le-mul_right each (omega (arith, at.1)) in
    (omega (arith, before.0, at.2), omega (arith, before.1, at.2, room))

pub same_picked : (n : Numbering) (ps : Picks) → is_picked (moved_picks n ps) ≡ is_picked ps
same_picked n no_picks = refl
same_picked n (pick ps p i c each) = refl

multiples_mapped : (f : ℕ → ℕ) (z c each : ℕ) → ((j : ℕ) → j < c → f z + j * each ≡ f (z + j * each))
    → multiples (f z) c each ≡ map f (multiples z c each)
unfolding multiples
multiples_mapped f z zero each same = refl
multiples_mapped f z (suc zero) each same = refl
multiples_mapped f z (suc (suc c)) each same =
    let one : 1 * each ≡ each = omega arith in
    let next : f z + each ≡ f (z + each) = rw one at (same 1 (omega arith)) in
    ap (λ ys. f z ∷ ys)
    (ap (λ y. multiples y (suc c) each) next
    ∙ multiples_mapped f (z + each) (suc c) each (λ j lt.
    let far : (z + each) + j * each ≡ z + suc j * each = grind arith in
    let further : (f z + each) + j * each ≡ f z + suc j * each = grind arith in
    ap (λ y. y + j * each) (sym next) ∙ further ∙ same (suc j) (omega (arith, lt)) ∙ ap f (sym far)))

module _ (n : Numbering) (m : LeafModule) (ports : n.ports ≡ m.port_leaves) where
  flat_mapped : (c each : ℕ) (zs : List ℕ) → ((z : ℕ) → In zs z → multiples (number n z) c each ≡ map (number n) (multiples z c each))
      → flat_map (λ k. multiples k c each) (map (number n) zs) ≡ map (number n) (flat_map (λ k. multiples k c each) zs)
  flat_mapped c each [] h = refl
  flat_mapped c each (z ∷ zs) h =
      ap₂ (λ (xs ys : List ℕ). xs ++ ys) (h z (inl refl)) (flat_mapped c each zs (λ y i. h y (inr i)))
      ∙ sym (map-append (number n) (multiples z c each) (flat_map (λ k. multiples k c each) zs))

  pub reached_moved : (b : ℕ) (ps : Picks) → IsRead m b ps → reached (number n b) (moved_picks n ps) ≡ map (number n) (reached b ps)
  reached_moved b no_picks h = refl
  reached_moved b (pick ps p i c each) h =
      let before = shorter m b ps (last_of b (pick ps p i c each)) (omega arith) h.within h.ports in
      ap (flat_map (λ k. multiples k c each)) (reached_moved b ps before)
      ∙ flat_mapped c each (reached b ps) (λ z among.
      let at = reached_between b ps z among in
      multiples_mapped (number n) z c each (λ j lt.
      let room : j * each ≤ (c - 1) * each = mul-le-mul_right each (omega (arith, lt)) in
      number_more n z (j * each) (λ low. omega (arith, ports, at.0, at.1, room, h.ports (omega (arith, low, ports, at.0))))))

  pub within_read : (b : ℕ) (ps : Picks) → IsRead m b ps → (y : ℕ) → In (reached b ps) y → y < length m.leaves
  within_read b ps h y among = omega (arith, (reached_between b ps y among).1, h.within)

  -- by paths of both
  module _ (outer inner : ℕ → LeafPath) (same : (x : ℕ) → x < length m.leaves → outer (number n x) ≡ inner x) where
    mapped : (ys : List ℕ) → ((y : ℕ) → In ys y → y < length m.leaves) → map outer (map (number n) ys) ≡ map inner ys
    mapped [] h = refl
    mapped (y ∷ ys) h = ap₂ (λ (q : LeafPath) (qs : List LeafPath). q ∷ qs) (same y (h y (inl refl))) (mapped ys (λ z i. h z (inr i)))

    pub joined_paths : (xs ys zs ws : List ℕ) → map outer xs ≡ map inner zs → map outer ys ≡ map inner ws → map outer (xs ++ ys) ≡ map inner (zs ++ ws)
    joined_paths xs ys zs ws h k = map-append outer xs ys ∙ ap₂ (λ (ps qs : List LeafPath). ps ++ qs) h k ∙ sym (map-append inner zs ws)

    pub reached_paths : (b : ℕ) (ps : Picks) → IsRead m b ps → map outer (reached (number n b) (moved_picks n ps)) ≡ map inner (reached b ps)
    reached_paths b ps h = ap (map outer) (reached_moved b ps h) ∙ mapped (reached b ps) (within_read b ps h)

    mutual
      pub reads_moved : (t : Term) → AllTermIn m t → map outer (reads (moved n t)) ≡ map inner (reads t)
      reads_moved zeros h = refl
      reads_moved (absent t ps) h = picks_moved ps h
      reads_moved (literal l) h = refl
      reads_moved (read b ps) h =
          joined_paths (picks_read (moved_picks n ps)) (reached (number n b) (moved_picks n ps)) (picks_read ps) (reached b ps) (picks_moved ps h.1)
          (reached_paths b ps h.0)
      reads_moved (operation op ts ks) h = terms_moved ts h
      reads_moved (mux c a b) h =
          joined_paths (reads (moved n c) ++ reads (moved n a)) (reads (moved n b)) (reads c ++ reads a) (reads b)
          (joined_paths (reads (moved n c)) (reads (moved n a)) (reads c) (reads a) (reads_moved c h.0) (reads_moved a h.1)) (reads_moved b h.2)
      reads_moved (validif c a) h =
          joined_paths (reads (moved n c)) (reads (moved n a)) (reads c) (reads a) (reads_moved c h.0) (reads_moved a h.1)

      pub picks_moved : (ps : Picks) → AllPicksIn m ps → map outer (picks_read (moved_picks n ps)) ≡ map inner (picks_read ps)
      picks_moved no_picks h = refl
      picks_moved (pick ps p i c each) h =
          joined_paths (picks_read (moved_picks n ps)) (reads (moved n i)) (picks_read ps) (reads i) (picks_moved ps h.0) (reads_moved i h.1)

      terms_moved : (ts : Terms) → AllTermsIn m ts → map outer (each_read (moved_terms n ts)) ≡ map inner (each_read ts)
      terms_moved no_terms h = refl
      terms_moved (term t ts) h =
          joined_paths (reads (moved n t)) (each_read (moved_terms n ts)) (reads t) (each_read ts) (reads_moved t h.0) (terms_moved ts h.1)
