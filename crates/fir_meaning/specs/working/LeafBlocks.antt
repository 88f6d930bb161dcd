-- Statements over the leaves of a module, and what they store (FIRRTL spec, "Conditional Last Connect Semantics").
-- A connect, a partial connect and an invalid become statements that drive one leaf each, or the one that their indices pick. `taken` has the truth of each
-- when round the statement, outermost first; a leaf counts those from its own declaration inward. All values are read from the settled ones.
use Rattle.std.specs.Prelude.{ℕ, List, [], ◌∷◌, ◌++◌, Bool, not, nat_eq, if◌then◌else◌, Option, Some, None}
use Rattle.fir_ast.specs.declared.place.Place.{Place}
use Rattle.fir_meaning.specs.working.Terms.{Term, Picks}
use Rattle.fir_meaning.specs.working.TermValues.{Holds, is_true, leaf_of}
use Rattle.fir_meaning.specs.CountedWhens.{counts}

-- an instance: how many are declared before it, the number of its module, and that of its first leaf
pub record HeldInstance : Type 0 where
  pub declaration : ℕ
  pub module_number : ℕ
  pub first : ℕ

mutual
  pub data LeafStatement : Type 0 where
    -- where the statement stands, the first leaf that it may drive, its indices, and what it gives
    drive : Place → ℕ → Picks → Term → LeafStatement
    when : Place → Term → LeafBlock → LeafBlock → LeafStatement
    instance : HeldInstance → LeafStatement

  pub data LeafBlock : Type 0 where
    done : LeafBlock
    then : LeafStatement → LeafBlock → LeafBlock

-- one block behind the other
abbrev pub joined : LeafBlock → LeafBlock → LeafBlock
joined done c = c
joined ((then) s b) c = (then) s (joined b c)

-- what was stored at each leaf, if anything was
abbrev pub LeafStore : Type 0 → Type 0
LeafStore V = ℕ → Option V

abbrev pub nothing_stored : {V : Type 0} → LeafStore V
nothing_stored x = None

abbrev pub stored_at : {V : Type 0} → ℕ → V → LeafStore V → LeafStore V
stored_at x v store y = if nat_eq x y then Some v else store y

-- the type of each leaf, how many whens stand round its declaration, and what a term gives to a leaf
module _ {V : Type 0} (holds : Holds) (depth : ℕ → ℕ) (numbers : ℕ → ℕ) (given : ℕ → Term → V) where
  abbrev pub stored : Option ℕ → Term → List Bool → LeafStore V → LeafStore V
  stored None t taken store = store
  stored (Some x) t taken store = if counts (depth x) taken then stored_at x (given x t) store else store

  abbrev mutual
    pub exec : LeafStatement → List Bool → LeafStore V → LeafStore V
    exec (drive p b ps t) taken store = stored (leaf_of holds numbers b ps) t taken store
    exec (when p c a b) taken store =
        exec_all b (taken ++ not (is_true holds numbers c) ∷ []) (exec_all a (taken ++ is_true holds numbers c ∷ []) store)
    exec (instance i) taken store = store

    pub exec_all : LeafBlock → List Bool → LeafStore V → LeafStore V
    exec_all done taken store = store
    exec_all ((then) s b) taken store = exec_all b taken (exec s taken store)
