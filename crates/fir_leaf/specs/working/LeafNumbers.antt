-- Terms and statements in which each leaf number is below a bound, also each that indices may pick.
use Rattle.std.specs.Prelude.{ℕ, ◌<◌, ◌≤◌, List}
use Rattle.fir_base.specs.Lists.{In}
use Rattle.fir_meaning.specs.working.Terms.{Term, Picks, Terms, zeros, absent, literal, read, operation, mux, validif, no_picks, pick, no_terms, term}
use Rattle.fir_meaning.specs.working.TermReads.{reached}
use Rattle.fir_meaning.specs.working.LeafBlocks.{LeafStatement, LeafBlock, drive, when, instance, done, then}

abbrev pub AllBelow : ℕ → List ℕ → Type 0
AllBelow n ks = (k : ℕ) → In ks k → k < n

abbrev mutual
  pub TermWithin : ℕ → Term → Type 0
  TermWithin n zeros = Unit {0}
  TermWithin n (absent t ps) = PicksWithin n ps
  TermWithin n (literal l) = Unit {0}
  TermWithin n (read b ps) = (b < n) × PicksWithin n ps × AllBelow n (reached b ps)
  TermWithin n (operation op ts ks) = TermsWithin n ts
  TermWithin n (mux c a b) = TermWithin n c × TermWithin n a × TermWithin n b
  TermWithin n (validif c a) = TermWithin n c × TermWithin n a

  pub PicksWithin : ℕ → Picks → Type 0
  PicksWithin n no_picks = Unit {0}
  PicksWithin n (pick ps p i count each) = PicksWithin n ps × TermWithin n i

  pub TermsWithin : ℕ → Terms → Type 0
  TermsWithin n no_terms = Unit {0}
  TermsWithin n (term t ts) = TermWithin n t × TermsWithin n ts

-- the leaves of an instance begin at the bound at most: it may have none
abbrev mutual
  pub StatementWithin : ℕ → LeafStatement → Type 0
  StatementWithin n (drive p b ps t) = TermWithin n (read b ps) × TermWithin n t
  StatementWithin n (when p c a b) = TermWithin n c × BlockWithin n a × BlockWithin n b
  StatementWithin n (instance i) = i.first ≤ n

  pub BlockWithin : ℕ → LeafBlock → Type 0
  BlockWithin n done = Unit {0}
  BlockWithin n ((then) s b) = StatementWithin n s × BlockWithin n b
