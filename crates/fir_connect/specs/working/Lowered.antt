-- Terms over leaves as terms of a net (FIRRTL spec, "Expressions", "Sub-accesses"). A read through indices tests each leaf that they may pick: the condition
-- of an element is that each index is its number, and what no condition meets is zero.
use Rattle.std.specs.Prelude.{ℕ, zero, suc, List, [], ◌∷◌, map, flat_map, false, Option, Some, None, Result, Ok, Err}
use Rattle.fir_bits.specs.Forms.{no_type}
use Rattle.fir_bits.specs.Literals.{least_width}
use Rattle.fir_bits.specs.working.Types.{typed}
use Rattle.fir_bits.specs.declared.operators.PrimOp.{PrimOp}
use Rattle.fir_bits.specs.declared.operators.PrimOp.TheVariants.{And, Eq, Orr}
use Rattle.fir_bits.specs.declared.types.NumTy.{NumTy}
use Rattle.fir_bits.specs.declared.types.OpFault.{OpFault}
use Rattle.fir_meaning.specs.Values.{literal_value, number_of}
use Rattle.fir_meaning.specs.working.TermReads.{reached}
use Rattle.fir_meaning.specs.working.TermValues.{Holds}
use Rattle.fir_meaning.specs.working.Terms.{Term, Picks, Terms, zeros, absent, literal, read, no_picks, pick, validif}
use Rattle.fir_meaning.specs.working.Terms as over
use Rattle.fir_connect.specs.working.NetTerms.{NetTerm, NetTerms, value, leaf, operation, mux, no_terms, term, choice, term_type, term_types}

abbrev pub one_bit : NumTy
one_bit = record { signed = false; width = 1 }

abbrev pub zero_of : NumTy → NetTerm
zero_of t = value (number_of t 0)

-- the type of a result; of what has none, that of no bits
abbrev pub type_or_none : Result NumTy OpFault → NumTy
type_or_none (Ok t) = t
type_or_none (Err f) = no_type

abbrev pub result : Holds → PrimOp → NetTerms → List ℕ → NetTerm
result holds op ts ks = operation op ts ks (type_or_none (typed op (term_types holds ts) ks))

-- a number as a UInt of the least width
abbrev pub unsigned_value : ℕ → NetTerm
unsigned_value n = value (number_of (record { signed = false; width = least_width false false n }) n)

abbrev pub is_number : NetTerm → ℕ → NetTerm
is_number i n = operation Eq (term i (term (unsigned_value n) no_terms)) [] one_bit

-- both conditions, where there is an earlier one
abbrev pub both : Option NetTerm → NetTerm → NetTerm
both None c = c
both (Some earlier) c = operation And (term earlier (term c no_terms)) [] one_bit

-- so many numbers from one on
abbrev pub numbers_from : ℕ → ℕ → List ℕ
numbers_from k zero = []
numbers_from k (suc n) = k ∷ numbers_from (suc k) n

-- a leaf that indices may pick, and its condition
pub record Candidate : Type 0 where
  pub number : ℕ
  pub condition : NetTerm

abbrev pub candidates : List ℕ → List (Option NetTerm) → List Candidate
candidates (x ∷ xs) (Some c ∷ cs) = record { number = x; condition = c } ∷ candidates xs cs
candidates _ _ = []

module _ (holds : Holds) where
  -- the first leaf that meets its condition, else another term of a type
  abbrev pub first_met : NumTy → NetTerm → List Candidate → NetTerm
  first_met t other [] = other
  first_met t other (c ∷ cs) = mux c.condition (leaf c.number) (first_met t other cs) t

  -- a term for where there is no candidate, and one for where there is one
  abbrev pub without : List Candidate → NetTerm → NetTerm → NetTerm
  without [] none some = none
  without (c ∷ cs) none some = some

  abbrev mutual
    pub lowered : Term → NetTerm
    lowered zeros = zero_of no_type
    lowered (absent t ps) = unpicked ps (zero_of t)
    lowered (literal l) = value (literal_value l)
    lowered (read b no_picks) = leaf b
    lowered (read b (pick ps p i n each)) =
        let found = candidates (reached b (pick ps p i n each)) (conditions (pick ps p i n each)) in
        first_met (holds b) (without found (unpicked (pick ps p i n each) (zero_of (holds b))) (zero_of (holds b))) found
    lowered (over.operation op ts ks) = result holds op (lowered_each ts) ks
    lowered (over.mux c a b) = choice holds (lowered c) (lowered a) (lowered b)
    lowered (validif c a) = choice holds (lowered c) (lowered a) (zero_of (term_type holds (lowered a)))

    pub lowered_each : Terms → NetTerms
    lowered_each over.no_terms = no_terms
    lowered_each (over.term t ts) = term (lowered t) (lowered_each ts)

    -- for each leaf that the indices may pick, in their order, the condition that they pick it; without indices there is none
    pub conditions : Picks → List (Option NetTerm)
    conditions no_picks = None ∷ []
    conditions (pick ps p i n each) = flat_map (λ earlier. map (λ k. Some (both earlier (is_number (lowered i) k))) (numbers_from 0 n)) (conditions ps)

    -- a value that hangs on the indices, though they pick nothing
    pub unpicked : Picks → NetTerm → NetTerm
    unpicked no_picks z = z
    unpicked (pick ps p i n each) z = choice holds (result holds Orr (term (lowered i) no_terms) []) (unpicked ps z) z
