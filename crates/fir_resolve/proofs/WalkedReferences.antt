-- What a walk through a reference finds: in its name, and then in its parts one behind the other.
use Rattle.std.proofs.Common.{◌≡◌, List, ◌++◌, Some, None, option_map, map, refl, sym, ap, ◌∙◌, subst}
use Rattle.std.specs.Prelude.{Option}
use Rattle.std.proofs.lemmas.List.{append-nil}
use Rattle.fir_ast.specs.declared.expressions.Expr.TheOpen.{Part-F}
use Rattle.fir_ast.specs.declared.expressions.Expr.TheOpen as layer
use Rattle.fir_ast.specs.declared.expressions.Part.{Part, fold_out-Part}
use Rattle.fir_ast.specs.declared.expressions.Reference.{Reference, fold_out-Reference}
use Rattle.fir_ast.specs.declared.fault.FirFault.{FirFault}
use Rattle.fir_ast.specs.Expressions.{Expression, Parts, no_parts}
use Rattle.fir_ast.specs.Statements.{SinkReference}
use Rattle.fir_ast.specs.working.Views.{parts_of, sink_of, expr_step, part_step, reference_step}
use Rattle.fir_ast.specs.Faults.{Fault}
use Rattle.fir_ast.specs.working.CodeFaults.{fault_of}
use Rattle.fir_pass.specs.Groups.{first_of}
use Rattle.fir_meaning.specs.Components.{Declarations}
use Rattle.fir_meaning.specs.Mentions.{Mention, expression_mentions, part_mentions, sink_mentions, uses}
use Rattle.fir_meaning.specs.NameGroups.{faults_in, mention_faults}
use Rattle.fir_names.specs.working.Parts.{part_of, part_view}
use Rattle.fir_names.proofs.FirstMentions.{front_silent, front_told, head_silent, head_told}

step_apart : (visible : Declarations) (q : Part-F Expression (Parts → Parts) SinkReference) (rest : Parts)
    → part_mentions visible (part_step q rest) ≡ part_mentions visible (part_step q no_parts) ++ part_mentions visible rest
step_apart visible (layer.Field first p x) rest = refl
step_apart visible (layer.Index first p i) rest = refl
step_apart visible (layer.Access first e) rest = ap (λ ms. ms ++ part_mentions visible rest) (sym (append-nil (expression_mentions visible e.value)))

view_apart : (visible : Declarations) (view : Parts → Parts) (q : Part-F Expression (Parts → Parts) SinkReference) (rest : Parts) → view ≡ part_step q
    → part_mentions visible (view rest) ≡ part_mentions visible (view no_parts) ++ part_mentions visible rest
view_apart visible view q rest is =
    subst (λ (v : Parts → Parts). part_mentions visible (v rest) ≡ part_mentions visible (v no_parts) ++ part_mentions visible rest) (sym is)
    (step_apart visible q rest)

part_apart : (visible : Declarations) (q : Part) (rest : Parts) → part_mentions visible (part_of q rest) ≡ part_mentions visible (part_view q) ++ part_mentions visible rest
part_apart visible q rest = view_apart visible (part_of q) _ rest (fold_out-Part Expression (Parts → Parts) SinkReference expr_step part_step reference_step q)

-- a part before others
module _ (visible : Declarations) (first : Option Fault) (q : Part) (rest : Parts) (f : Option FirFault)
    (same : option_map fault_of f ≡ first_of (faults_in (part_mentions visible (part_view q))))
    (so_far : first ≡ first_of (faults_in (part_mentions visible (part_of q rest)))) where
  pub part_told : (x : FirFault) → f ≡ Some x → Some (fault_of x) ≡ first
  part_told x is =
      front_told f x (part_mentions visible (part_view q)) (part_mentions visible rest) is same
      ∙ sym (so_far ∙ ap (λ ms. first_of (faults_in ms)) (part_apart visible q rest))

  pub part_silent : f ≡ None → first ≡ first_of (faults_in (part_mentions visible rest))
  part_silent none =
      so_far ∙ ap (λ ms. first_of (faults_in ms)) (part_apart visible q rest)
      ∙ front_silent f (part_mentions visible (part_view q)) (part_mentions visible rest) none same

-- the name, and then the parts
module _ (visible : Declarations) (r : Reference) (f : Option FirFault) (named : option_map fault_of f ≡ first_of (mention_faults (uses visible r.place r.name))) where
  abbrev parts : List Mention
  parts = part_mentions visible (parts_of (map part_of r.parts.items))

  abbrev view : sink_of r ≡ record { place = r.place; name = r.name; parts = parts_of (map part_of r.parts.items) }
  view = fold_out-Reference Expression (Parts → Parts) SinkReference expr_step part_step reference_step r

  pub name_told : (x : FirFault) → f ≡ Some x → Some (fault_of x) ≡ first_of (faults_in (sink_mentions visible (sink_of r)))
  name_told x is = head_told f x (uses visible r.place r.name) parts is named ∙ ap (λ s. first_of (faults_in (sink_mentions visible s))) (sym view)

  pub behind_name : (o : Option Fault) → f ≡ None → o ≡ first_of (faults_in parts) → o ≡ first_of (faults_in (sink_mentions visible (sink_of r)))
  behind_name o none same =
      same ∙ sym (head_silent f (uses visible r.place r.name) parts none named) ∙ ap (λ s. first_of (faults_in (sink_mentions visible s))) (sym view)
