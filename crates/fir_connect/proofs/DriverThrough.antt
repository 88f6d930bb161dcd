-- What a statement leaves through candidates reads what stood before, and of each candidate of the leaf the condition and what is given.
use Rattle.std.proofs.Common.{◌≡◌, ◌↔◌, ℕ, [], ◌∷◌, List, ◌++◌, Bool, true, false, refl, sym, ap, ◌∙◌, inl, inr, ◌⊎◌, ⊎_elim, subst, nat_eq, if◌then◌else◌, arith}
use Rattle.fir_base.specs.Lists.{In}
use Rattle.fir_base.proofs.Members.{in_either, in_left, in_right}
use Rattle.fir_meaning.specs.working.Terms.{Term, zeros, absent, literal, read, operation, mux, validif}
use Rattle.fir_meaning.specs.working.TermReads.{reads}
use Rattle.fir_meaning.specs.working.TermValues.{Holds}
use Rattle.fir_connect.specs.working.NetTerms.{NetTerm, choice}
use Rattle.fir_connect.specs.working.NetReads.{net_reads}
use Rattle.fir_connect.specs.working.Lowered.{Candidate}
use Rattle.fir_connect.specs.working.Drivers.{given, through}
use Rattle.fir_connect.proofs.LoweredReads.{lowered_reads}

-- what a statement gives reads what its term reads
pub given_reads : (holds : Holds) (x : ℕ) (t : Term) (y : ℕ) → In (net_reads (given holds x t)) y ↔ In (reads t) y
given_reads holds x zeros y = (λ m. m, λ m. m)
given_reads holds x (absent t ps) y = lowered_reads holds (absent t ps) y
given_reads holds x (literal l) y = lowered_reads holds (literal l) y
given_reads holds x (read b ps) y = lowered_reads holds (read b ps) y
given_reads holds x (operation op ts ks) y = lowered_reads holds (operation op ts ks) y
given_reads holds x (mux c a b) y = lowered_reads holds (mux c a b) y
given_reads holds x (validif c a) y = lowered_reads holds (validif c a) y

module _ (holds : Holds) (depth x : ℕ) (e : NetTerm) (y : ℕ) where
  -- what is left through candidates reads what stood before, the conditions of those of the leaf, and what is given
  pub through_from : (cs : List Candidate) (old : NetTerm) (P : Type 0) → (In (net_reads old) y → P)
      → ((c : Candidate) → In cs c → c.number ≡ x → In (net_reads c.condition) y ⊎ In (net_reads e) y → P)
      → In (net_reads (through holds depth x cs e old)) y → P
  through_from [] old P of_old of_candidate m = of_old m
  through_from (c ∷ cs) old P of_old of_candidate m =
      through_from cs (if nat_eq c.number x then choice holds c.condition e old else old) P (here (nat_eq c.number x) refl)
      (λ d n. of_candidate d (inr n)) m
    where
      here : (b : Bool) → nat_eq c.number x ≡ b → In (net_reads (if b then choice holds c.condition e old else old)) y → P
      here false q n = of_old n
      here true q n =
          let is : c.number ≡ x = grind arith in
          ⊎_elim
          (λ (o : In (net_reads c.condition ++ net_reads e) y). of_candidate c (inl refl) is (in_either (net_reads c.condition) (net_reads e) y o))
          of_old
          (in_either (net_reads c.condition ++ net_reads e) (net_reads old) y n)

  pub through_old : (cs : List Candidate) (old : NetTerm) → In (net_reads old) y → In (net_reads (through holds depth x cs e old)) y
  through_old [] old m = m
  through_old (c ∷ cs) old m = through_old cs (if nat_eq c.number x then choice holds c.condition e old else old) (here (nat_eq c.number x))
    where
      here : (b : Bool) → In (net_reads (if b then choice holds c.condition e old else old)) y
      here false = m
      here true = in_right (net_reads c.condition ++ net_reads e) (net_reads old) y m

  pub through_candidate : (cs : List Candidate) (old : NetTerm) (c : Candidate) → In cs c → c.number ≡ x → In (net_reads c.condition) y ⊎ In (net_reads e) y
      → In (net_reads (through holds depth x cs e old)) y
  through_candidate [] old c m is r = absurd m
  through_candidate (d ∷ cs) old c (inr m) is r = through_candidate cs (if nat_eq d.number x then choice holds d.condition e old else old) c m is r
  through_candidate (d ∷ cs) old c (inl q) is r =
      through_old cs (if nat_eq d.number x then choice holds d.condition e old else old) (here (nat_eq d.number x) refl)
    where
      same : d.number ≡ x
      same = ap (λ (z : Candidate). z.number) q ∙ is

      here : (b : Bool) → nat_eq d.number x ≡ b → In (net_reads (if b then choice holds d.condition e old else old)) y
      here false f = absurd (grind arith)
      here true f =
          in_left (net_reads d.condition ++ net_reads e) (net_reads old) y
          (⊎_elim
          (λ (m : In (net_reads c.condition) y).
          in_left (net_reads d.condition) (net_reads e) y (subst (λ (z : Candidate). In (net_reads z.condition) y) (sym q) m))
          (λ (m : In (net_reads e) y). in_right (net_reads d.condition) (net_reads e) y m)
          r)
