-- Tables that agree at each number that stands in statements store the same by them.
use Rattle.std.proofs.Common.{◌≡◌, ℕ, ◌<◌, List, [], ◌∷◌, ◌++◌, Bool, true, false, not, if◌then◌else◌, Option, Some, None, refl, ap}
use Rattle.fir_meaning.specs.Values.{number_of}
use Rattle.fir_meaning.specs.working.Terms.{Term, Picks, Terms, zeros, absent, literal, read, operation, mux, validif, no_picks, pick, no_terms, term}
use Rattle.fir_meaning.specs.working.TermValues.{Holds, eval, eval_each, is_true, leaf_of, value_at}
use Rattle.fir_meaning.specs.working.LeafBlocks.{LeafStatement, LeafBlock, LeafStore, drive, when, instance, done, then, exec, exec_all, stored, stored_at}
use Rattle.fir_meaning.specs.CountedWhens.{counts}
use Rattle.fir_leaf.specs.working.LeafNumbers.{TermWithin, PicksWithin, TermsWithin, StatementWithin, BlockWithin}
use Rattle.fir_leaf.proofs.PickedLeaves.{in_reached}

-- what is stored at each leaf
pub record SameStore (ns ms : LeafStore ℕ) : Type 0 where
  pub each : (k : ℕ) → ns k ≡ ms k

stored_alike : (c : Bool) (x v w : ℕ) (ns ms : LeafStore ℕ) → v ≡ w → SameStore ns ms
    → SameStore (if c then stored_at x v ns else ns) (if c then stored_at x w ms else ms)
stored_alike false x v w ns ms e same = same
stored_alike true x v w ns ms e same = record { each = λ k. rw (e, same.each k) refl }

module _ (n : ℕ) (holds other : Holds) (numbers others : ℕ → ℕ) (same_holds : (x : ℕ) → x < n → holds x ≡ other x)
    (same_numbers : (x : ℕ) → x < n → numbers x ≡ others x) where
  read_alike : (o : Option ℕ) → ((x : ℕ) → o ≡ Some x → x < n) → value_at o numbers ≡ value_at o others
  read_alike None h = refl
  read_alike (Some x) h = same_numbers x (h x refl)

  mutual
    pub value_alike : (t : Term) → TermWithin n t → eval holds numbers t ≡ eval other others t
    value_alike zeros h = refl
    value_alike (absent t ps) h = refl
    value_alike (literal l) h = refl
    value_alike (read b ps) h =
        rw (same_holds b h.0, leaf_alike b ps h.1)
        (ap (number_of (other b)) (read_alike (leaf_of other others b ps) (λ x e. h.2 x (in_reached other others b x ps e))))
    value_alike (operation op ts ks) h = rw (values_alike ts h) refl
    value_alike (mux c a b) h = rw (value_alike c h.0, value_alike a h.1, value_alike b h.2) refl
    value_alike (validif c a) h = rw (value_alike c h.0, value_alike a h.1) refl

    pub leaf_alike : (b : ℕ) (ps : Picks) → PicksWithin n ps → leaf_of holds numbers b ps ≡ leaf_of other others b ps
    leaf_alike b no_picks h = refl
    leaf_alike b (pick ps p i count each) h = rw (value_alike i h.1, leaf_alike b ps h.0) refl

    values_alike : (ts : Terms) → TermsWithin n ts → eval_each holds numbers ts ≡ eval_each other others ts
    values_alike no_terms h = refl
    values_alike (term t ts) h = rw (value_alike t h.0, values_alike ts h.1) refl

  true_alike : (c : Term) → TermWithin n c → is_true holds numbers c ≡ is_true other others c
  true_alike c h = rw (value_alike c h) refl

  module _ (depth depths : ℕ → ℕ) (same_depth : (x : ℕ) → x < n → depth x ≡ depths x) (given gives : ℕ → Term → ℕ)
      (same_given : (x : ℕ) (t : Term) → x < n → TermWithin n t → given x t ≡ gives x t) where
    drive_alike : (o : Option ℕ) (t : Term) (taken : List Bool) (ns ms : LeafStore ℕ) → ((x : ℕ) → o ≡ Some x → x < n) → TermWithin n t → SameStore ns ms
        → SameStore (stored holds depth numbers given o t taken ns) (stored other depths others gives o t taken ms)
    drive_alike None t taken ns ms lt h same = same
    drive_alike (Some x) t taken ns ms lt h same =
        rw (same_depth x (lt x refl))
        (stored_alike (counts (depths x) taken) x (given x t) (gives x t) ns ms (same_given x t (lt x refl) h) same)

    mutual
      statement_alike : (s : LeafStatement) (taken : List Bool) (ns ms : LeafStore ℕ) → StatementWithin n s → SameStore ns ms
          → SameStore (exec holds depth numbers given s taken ns) (exec other depths others gives s taken ms)
      statement_alike (drive p b ps t) taken ns ms h same =
          rw (leaf_alike b ps h.0.1)
          (drive_alike (leaf_of other others b ps) t taken ns ms (λ x e. h.0.2 x (in_reached other others b x ps e)) h.1 same)
      statement_alike (when p c a b) taken ns ms h same =
          rw (true_alike c h.0)
          (block_alike b (taken ++ not (is_true other others c) ∷ []) _ _ h.2
          (block_alike a (taken ++ is_true other others c ∷ []) ns ms h.1 same))
      statement_alike (instance i) taken ns ms h same = same

      pub block_alike : (b : LeafBlock) (taken : List Bool) (ns ms : LeafStore ℕ) → BlockWithin n b → SameStore ns ms
          → SameStore (exec_all holds depth numbers given b taken ns) (exec_all other depths others gives b taken ms)
      block_alike done taken ns ms h same = same
      block_alike ((then) s b) taken ns ms h same =
          block_alike b taken (exec holds depth numbers given s taken ns) (exec other depths others gives s taken ms) h.1
          (statement_alike s taken ns ms h.0 same)
