-- A walk through a when: its condition, and then its two blocks, each of which is opened and closed again.
use Rattle.std.proofs.Common.{◌≡◌, List, ◌++◌, Some, None, option_map, ◌∙◌}
use Rattle.std.specs.Prelude.{Option}
use Rattle.fir_ast.specs.declared.fault.FirFault.{FirFault}
use Rattle.fir_ast.specs.declared.place.Place.{Place}
use Rattle.fir_ast.specs.Expressions.{Expression}
use Rattle.fir_ast.specs.Statements.{PlacedName, Block, when}
use Rattle.fir_ast.specs.working.CodeFaults.{fault_of}
use Rattle.fir_pass.specs.Groups.{first_of}
use Rattle.fir_meaning.specs.Visibility.{Before, opened, closed, behind, behind_block}
use Rattle.fir_meaning.specs.Mentions.{Mention, expression_mentions, mentions, block_mentions}
use Rattle.fir_meaning.specs.NameGroups.{faults_in}
use Rattle.fir_resolve.specs.declared.scope.Scope.{Scope}
use Rattle.fir_resolve.specs.working.Opened.{Opens, Closes}
use Rattle.fir_resolve.specs.working.Scoped.{Passes, Walks}
use Rattle.fir_names.proofs.FirstMentions.{silent, told}
use Rattle.fir_resolve.proofs.PassedMentions.{first_of_three, passes_silent, passes_told, second_of_three, third_of_three}
use Rattle.fir_resolve.proofs.WalkedScopes.{walks_closed, walks_opened}

-- what a block passes
abbrev pub PassesBlock : List PlacedName → Scope → Scope → Before → Block → Option FirFault → Type 0
PassesBlock modules old new before b f = Passes modules old new (block_mentions modules before b) (behind_block before b) f

-- a block that is opened at a place, passed and closed
pub block_closed : (modules : List PlacedName) (old inside late new : Scope) (before : Before) (b : Block) (f : Option FirFault) → Walks modules old before
    → Opens old inside → f ≡ None → PassesBlock modules inside late (opened before) b f → Closes late new
    → Walks modules new (closed before (behind_block (opened before) b)) × (new.opened.items ≡ old.opened.items)
block_closed modules old inside late new before b f w o none p c =
    walks_closed modules old inside late new before b w o (p.still_open none) c (p.walked none)

-- what stands in a when, and behind it
abbrev pub PassesWhen : List PlacedName → Scope → Scope → Before → Place → Expression → Block → Block → Option FirFault → Type 0
PassesWhen modules old new before p c a b f = Passes modules old new (mentions modules before (when p c a b)) (behind before (when p c a b)) f

module _ (modules : List PlacedName) (before : Before) (p : Place) (c : Expression) (a b : Block) where
  abbrev condition : List Mention
  condition = expression_mentions before.visible c

  abbrev between : Before
  between = closed before (behind_block (opened before) a)

  abbrev one : List Mention
  one = block_mentions modules (opened before) a

  abbrev two : List Mention
  two = block_mentions modules (opened between) b

  -- a fault in the condition, and one in the first block
  pub condition_told : (old new : Scope) (f : Option FirFault) (x : FirFault) → f ≡ Some x → option_map fault_of f ≡ first_of (faults_in condition)
      → PassesWhen modules old new before p c a b (Some x)
  condition_told old new f x is first =
      passes_told modules old new _ _ x (first_of_three condition one two (fault_of x) (told f x (first_of (faults_in condition)) is first))

  pub first_told : (old inside late new : Scope) (f g : Option FirFault) (x : FirFault) → f ≡ None
      → option_map fault_of f ≡ first_of (faults_in condition) → Walks modules old before → Opens old inside → g ≡ Some x
      → ((now : Before) → Walks modules inside now → PassesBlock modules inside late now a g) → PassesWhen modules old new before p c a b (Some x)
  first_told old inside late new f g x none first w o is passed =
      let here = passed (opened before) (walks_opened modules old inside before o w) in
      passes_told modules old new _ _ x
      (second_of_three condition one two (fault_of x) (silent f (first_of (faults_in condition)) none first)
      (told g x (first_of (faults_in one)) is here.first))

  -- what stands in the second block, where none stands before it
  module _ (old inside late middle other later : Scope) (f g h : Option FirFault) (none : f ≡ None) (first : option_map fault_of f ≡ first_of (faults_in condition))
      (w : Walks modules old before) (o : Opens old inside) (neither : g ≡ None)
      (passed : (now : Before) → Walks modules inside now → PassesBlock modules inside late now a g) (closes : Closes late middle) (reopens : Opens middle other)
      (last : (now : Before) → Walks modules other now → PassesBlock modules other later now b h) where
    one_passed : PassesBlock modules inside late (opened before) a g
    one_passed = passed (opened before) (walks_opened modules old inside before o w)

    one_closed : Walks modules middle between × (middle.opened.items ≡ old.opened.items)
    one_closed = block_closed modules old inside late middle before a g w o neither one_passed closes

    two_passed : PassesBlock modules other later (opened between) b h
    two_passed = last (opened between) (walks_opened modules middle other between reopens one_closed.0)

    reached : option_map fault_of h ≡ first_of (faults_in (condition ++ one ++ two))
    reached =
        third_of_three condition one two (option_map fault_of h) (silent f (first_of (faults_in condition)) none first)
        (silent g (first_of (faults_in one)) neither one_passed.first) two_passed.first

    pub second_told : (new : Scope) (x : FirFault) → h ≡ Some x → PassesWhen modules old new before p c a b (Some x)
    second_told new x is = passes_told modules old new _ _ x (told h x (first_of (faults_in (condition ++ one ++ two))) is reached)

    pub both_passed : (new : Scope) → h ≡ None → Closes later new → PassesWhen modules old new before p c a b None
    both_passed new third ends =
        let after = block_closed modules middle other later new between b h one_closed.0 reopens third two_passed ends in
        passes_silent modules old new _ _ (silent h (first_of (faults_in (condition ++ one ++ two))) third reached) after.0 (after.1 ∙ one_closed.1)
