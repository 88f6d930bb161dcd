-- What the nodes make of each term over leaves, also of one that has no type: the lowered term, but for what is wider than 128 bits, which counts as zero of no
-- bits. The elements that indices may pick come with their conditions, counted from the first leaf.
use Rattle.std.specs.Prelude.{ℕ, zero, suc, ◌+◌, List, [], ◌∷◌, ◌++◌, flat_map, nat_le, if◌then◌else◌, Option, Some, None}
use Rattle.fir_bits.specs.Forms.{no_type}
use Rattle.fir_bits.specs.declared.operators.PrimOp.TheVariants.{Orr}
use Rattle.fir_bits.specs.declared.types.NumTy.{NumTy}
use Rattle.fir_meaning.specs.Values.{literal_value, literal_type}
use Rattle.fir_meaning.specs.working.TermValues.{Holds}
use Rattle.fir_meaning.specs.working.Terms.{Term, Picks, Terms, zeros, absent, literal, read, no_picks, pick, validif}
use Rattle.fir_meaning.specs.working.Terms as over
use Rattle.fir_connect.specs.working.Lowered.{Candidate, both, is_number, result, without, zero_of}
use Rattle.fir_connect.specs.working.NetTerms.{NetTerm, NetTerms, value, leaf, mux, no_terms, term, choice, term_type}

-- a term of a type, where that is no wider than 128 bits
abbrev pub narrow_or_none : NumTy → NetTerm → NetTerm
narrow_or_none t x = if nat_le t.width 128 then x else zero_of no_type

-- so many elements of an index, from the one of a number on, behind an element
abbrev pub further : Option NetTerm → ℕ → NetTerm → ℕ → ℕ → ℕ → List Candidate
further earlier x i each k zero = []
further earlier x i each k (suc n) = record { number = x; condition = both earlier (is_number i k) } ∷ further earlier (x + each) i each (suc k) n

-- behind each element those of a further index
abbrev pub further_each : NetTerm → ℕ → ℕ → List Candidate → List Candidate
further_each i each n found = flat_map (λ e. further (Some e.condition) e.number i each 0 n) found

module _ (holds : Holds) where
  -- a choice for each index, from the first on
  abbrev pub chosen_by : List NetTerm → NetTerm → NetTerm → NetTerm
  chosen_by [] so_far z = so_far
  chosen_by (i ∷ is) so_far z = chosen_by is (choice holds (result holds Orr (term i no_terms) []) so_far z) z

  -- the first leaf that meets its condition, counted from one, else another term
  abbrev pub first_met_from : ℕ → NumTy → NetTerm → List Candidate → NetTerm
  first_met_from b t other [] = other
  first_met_from b t other (c ∷ cs) = mux c.condition (leaf (b + c.number)) (first_met_from b t other cs) t

  abbrev mutual
    pub made : Term → NetTerm
    made zeros = zero_of no_type
    made (absent t ps) = narrow_or_none t (chosen_by (index_terms ps) (zero_of t) (zero_of t))
    made (literal l) = narrow_or_none (literal_type l) (value (literal_value l))
    made (read b no_picks) = leaf b
    made (read b (pick ps p i n each)) =
        let found = elements (pick ps p i n each) in
        let z = zero_of (holds b) in
        narrow_or_none (holds b) (first_met_from b (holds b) (without holds found (chosen_by (index_terms (pick ps p i n each)) z z) z) found)
    made (over.operation op ts ks) = result holds op (made_each ts) ks
    made (over.mux c a b) = choice holds (made c) (made a) (made b)
    made (validif c a) = narrow_or_none (term_type holds (made a)) (choice holds (made c) (made a) (zero_of (term_type holds (made a))))

    pub made_each : Terms → NetTerms
    made_each over.no_terms = no_terms
    made_each (over.term t ts) = term (made t) (made_each ts)

    -- the elements that indices may pick
    pub elements : Picks → List Candidate
    elements no_picks = []
    elements (pick no_picks p i n each) = further None 0 (made i) each 0 n
    elements (pick (pick ps q j m apart) p i n each) = further_each (made i) each n (elements (pick ps q j m apart))

    -- the indices, from the first on
    pub index_terms : Picks → List NetTerm
    index_terms no_picks = []
    index_terms (pick ps p i n each) = index_terms ps ++ made i ∷ []
