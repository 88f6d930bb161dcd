-- What a walk through a register finds, where its name is new: in its type, in its clock, and in its reset.
use Rattle.std.proofs.Common.{◌≡◌, ◌++◌, Some, None, option_map, List, sym, ◌∙◌}
use Rattle.std.specs.Prelude.{Option}
use Rattle.fir_ast.specs.declared.fault.FirFault.{FirFault}
use Rattle.fir_ast.specs.Types.{DataType}
use Rattle.fir_ast.specs.Expressions.{Expression}
use Rattle.fir_ast.specs.Statements.{PlacedName, Reset}
use Rattle.fir_ast.specs.Faults.{Fault}
use Rattle.fir_ast.specs.working.CodeFaults.{fault_of}
use Rattle.fir_pass.specs.Groups.{first_of}
use Rattle.fir_meaning.specs.Components as component
use Rattle.fir_meaning.specs.Visibility.{Before, with_declaration}
use Rattle.fir_meaning.specs.Mentions.{Mention, declares, names_declared, expression_mentions, reset_mentions, type_mentions}
use Rattle.fir_meaning.specs.NameGroups.{faults_in, mention_faults}
use Rattle.fir_names.specs.working.Parts.{register_mentions}
use Rattle.fir_names.proofs.FirstMentions.{head_silent, silent, told}
use Rattle.fir_resolve.proofs.PassedMentions.{first_of_three, second_of_three, third_of_three}

module _ (before : Before) (n : PlacedName) (t : DataType) (c : Expression) (r : Option Reset) (f g : Option FirFault) (none : f ≡ None)
    (named : option_map fault_of f ≡ first_of (mention_faults (declares (names_declared before) n)))
    (typed : option_map fault_of g ≡ first_of (faults_in (type_mentions t))) where
  abbrev clock : List Mention
  clock = expression_mentions before.visible c

  abbrev reset : List Mention
  reset = reset_mentions (with_declaration before n (component.register t)).visible r

  behind_name : (o : Option Fault) → o ≡ first_of (faults_in (type_mentions t ++ clock ++ reset)) → o ≡ first_of (faults_in (register_mentions before n t c r))
  behind_name o same = same ∙ sym (head_silent f (declares (names_declared before) n) (type_mentions t ++ clock ++ reset) none named)

  pub type_told : (x : FirFault) → g ≡ Some x → Some (fault_of x) ≡ first_of (faults_in (register_mentions before n t c r))
  type_told x is =
      behind_name (Some (fault_of x))
      (first_of_three (type_mentions t) clock reset (fault_of x) (told g x (first_of (faults_in (type_mentions t))) is typed))

  module _ (h : Option FirFault) (neither : g ≡ None) (clocked : option_map fault_of h ≡ first_of (faults_in clock)) where
    pub clock_told : (x : FirFault) → h ≡ Some x → Some (fault_of x) ≡ first_of (faults_in (register_mentions before n t c r))
    clock_told x is =
        behind_name (Some (fault_of x))
        (second_of_three (type_mentions t) clock reset (fault_of x) (silent g (first_of (faults_in (type_mentions t))) neither typed)
        (told h x (first_of (faults_in clock)) is clocked))

    pub reset_reached : (k : Option FirFault) → h ≡ None → option_map fault_of k ≡ first_of (faults_in reset)
        → option_map fault_of k ≡ first_of (faults_in (register_mentions before n t c r))
    reset_reached k third last =
        behind_name (option_map fault_of k)
        (third_of_three (type_mentions t) clock reset (option_map fault_of k) (silent g (first_of (faults_in (type_mentions t))) neither typed)
        (silent h (first_of (faults_in clock)) third clocked) last)
