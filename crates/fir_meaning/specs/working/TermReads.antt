-- What a term reads (FIRRTL spec, "Sub-accesses"): of a read through indices every leaf that these may pick, and what the indices read.
use Rattle.std.specs.Prelude.{ℕ, zero, suc, ◌+◌, List, [], ◌∷◌, ◌++◌, flat_map, Bool, true, false, ◌||◌, nat_eq}
use Rattle.fir_meaning.specs.working.Terms.{Term, Picks, Terms, zeros, absent, literal, read, operation, mux, validif, no_picks, pick, no_terms, term}

-- so many leaves from one on, each so many further
unfoldable pub multiples : ℕ → ℕ → ℕ → List ℕ
multiples b zero each = []
multiples b (suc n) each = b ∷ multiples (b + each) n each

-- every leaf that indices may pick
abbrev pub reached : ℕ → Picks → List ℕ
reached b no_picks = b ∷ []
reached b (pick ps p i n each) = flat_map (λ k. multiples k n each) (reached b ps)

abbrev mutual
  pub reads : Term → List ℕ
  reads zeros = []
  reads (absent t ps) = picks_read ps
  reads (literal l) = []
  reads (read b ps) = picks_read ps ++ reached b ps
  reads (operation op ts ks) = each_read ts
  reads (mux c a b) = reads c ++ reads a ++ reads b
  reads (validif c a) = reads c ++ reads a

  pub picks_read : Picks → List ℕ
  picks_read no_picks = []
  picks_read (pick ps p i n each) = picks_read ps ++ reads i

  pub each_read : Terms → List ℕ
  each_read no_terms = []
  each_read (term t ts) = reads t ++ each_read ts

abbrev pub is_picked : Picks → Bool
is_picked no_picks = false
is_picked (pick ps p i n each) = true

abbrev pub is_among : List ℕ → ℕ → Bool
is_among [] x = false
is_among (y ∷ ys) x = nat_eq y x || is_among ys x
