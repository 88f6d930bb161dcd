-- The fault at the first leaf that passes a test is the first of the faults at all such leaves.
use Rattle.std.proofs.Common.{◌≡◌, ℕ, List, [], ◌∷◌, ◌++◌, flat_map, Bool, true, false, if◌then◌else◌, Option, Some, None, nat_lt, refl, sym, ap, ◌∙◌, append_assoc, arith}
use Rattle.std.proofs.lemmas.Bool.Decides.{nat_tests}
use Rattle.std.proofs.lemmas.Grind.{flat_map-append}
use Rattle.std.proofs.lemmas.List.{append-nil}
use Rattle.std.specs.Option.{is_some}
use Rattle.std.specs.Prelude.{◌&&◌, ◌||◌, min, option_map}
use Rattle.fir_ast.specs.declared.place.Place.{Place}
use Rattle.fir_ast.specs.Types.{DataType, uint, sint, clock, reset, async_reset, bundle, vector}
use Rattle.fir_ast.specs.Expressions.{Parts, no_parts, subfield, subindex, subaccess}
use Rattle.fir_ast.specs.Statements.{PlacedName, SinkReference}
use Rattle.fir_ast.specs.declared.fault.FirFault.TheVariants as fault
use Rattle.fir_ast.specs.Faults.{Fault}
use Rattle.fir_ast.specs.working.CodeFaults.{fault_of}
use Rattle.fir_pass.specs.Groups.{first_of}
use Rattle.fir_meaning.specs.LeafPaths.{LeafPath, named, element, step_text, path_text}
use Rattle.fir_meaning.specs.TypeLeaves.{turned}
use Rattle.fir_meaning.specs.WidthExpressions.{Widths, width_under}
use Rattle.fir_meaning.specs.SizedTypes.{leaf_width, past, numbered}
use Rattle.fir_meaning.specs.SizedLeaves.{SizedLeaf, sized_leaves}
use Rattle.fir_meaning.specs.SizeFaults.{leaf_over, word_over, no_port_width}
use Rattle.fir_meaning.specs.OverFaults.{first_path, is_leaf_over, leaves_over}
use Rattle.fir_types.specs.working.Seen.{sink_path, steps_of}
use Rattle.fir_infer_widths.specs.working.FirstLeaves.{first_where, leaf_is_over, says_over, leaf_says_over, lacks_width, is_unwritten_input}
use Rattle.fir_infer_widths.specs.working.NumberedLeaves.{NumberedLeaf, numbered_leaves}
use Rattle.fir_infer_widths.specs.working.SpotFaults.{is_over, numbers_over, is_any_over, written_over, named_over, sink_over, unwritten_leaf, unwritten_in}
use Rattle.fir_infer_widths.proofs.SideLeaves.{Fitting, AreAlike}
use Rattle.fir_infer_widths.proofs.WrittenLeaves.{GroundsFit, written_alike}

none_found : (o : Option LeafPath) → None ≡ option_map (flat_map step_text) o → o ≡ None
none_found None e = refl
none_found (Some p) e = cc

some_found : (o : Option LeafPath) (steps : List ℕ) → Some steps ≡ option_map (flat_map step_text) o → (q : LeafPath) × (o ≡ Some q) × (flat_map step_text q ≡ steps)
some_found None steps e = cc
some_found (Some q) steps e = (q, refl, cc)

-- what each leaf that passes the test tells
module _ (test : NumberedLeaf → Bool) (tells : LeafPath → Fault) (f : NumberedLeaf → List Fault) (each : (l : NumberedLeaf) → f l ≡ (if test l then tells l.path ∷ [] else [])) where
  none_at : (ls : List NumberedLeaf) → first_where test ls ≡ None → flat_map f ls ≡ []
  none_at [] h = refl
  none_at (l ∷ ls) h = by (test l) refl (none_at ls) h where
    by : (b : Bool) → test l ≡ b → (first_where test ls ≡ None → flat_map f ls ≡ []) → (if b then Some l.path else first_where test ls) ≡ None
        → flat_map f (l ∷ ls) ≡ []
    by true e rest k = cc
    by false e rest k = rw (each l, e) (rest k)

  first_at : (ls : List NumberedLeaf) (q : LeafPath) → first_where test ls ≡ Some q → first_of (flat_map f ls) ≡ Some (tells q)
  first_at [] q h = cc
  first_at (l ∷ ls) q h = by (test l) refl (first_at ls q) h where
    by : (b : Bool) → test l ≡ b → (first_where test ls ≡ Some q → first_of (flat_map f ls) ≡ Some (tells q))
        → (if b then Some l.path else first_where test ls) ≡ Some q → first_of (flat_map f (l ∷ ls)) ≡ Some (tells q)
    by true e rest k = let same : l.path ≡ q = cc in rw (each l, e, same) refl
    by false e rest k = rw (each l, e) (rest k)

  pub nothing_told : (ls : List NumberedLeaf) → None ≡ option_map (flat_map step_text) (first_where test ls) → flat_map f ls ≡ []
  nothing_told ls e = none_at ls (none_found (first_where test ls) e)

  pub first_told : (ls : List NumberedLeaf) (steps : List ℕ) (g : Fault) → Some steps ≡ option_map (flat_map step_text) (first_where test ls)
      → ((q : LeafPath) → flat_map step_text q ≡ steps → tells q ≡ g) → first_of (flat_map f ls) ≡ Some g
  first_told ls steps g e tell = let r = some_found (first_where test ls) steps e in first_at ls r.0 r.1 ∙ ap Some (tell r.0 r.2)

-- a path in two parts
path_joined : (x : List ℕ) (path q : LeafPath) → path_text (named x ∷ path ++ q) ≡ path_text (named x ∷ path) ++ flat_map step_text q
path_joined x path q = ap (λ t. x ++ t) (flat_map-append step_text path q) ∙ sym (append_assoc x (flat_map step_text path) (flat_map step_text q))

module _ (u : Widths) (p : Place) where
  over_each : (path : LeafPath) (l : NumberedLeaf)
      → (if is_over (u l.number) then leaf_over p (path ++ l.path) ∷ [] else []) ≡ (if leaf_is_over u l then leaf_over p (path ++ l.path) ∷ [] else [])
  over_each path l = refl

  none_over : (path : LeafPath) (ls : List NumberedLeaf) → None ≡ option_map (flat_map step_text) (first_where (leaf_is_over u) ls) → numbers_over u p path ls ≡ []
  none_over path ls e = nothing_told (leaf_is_over u) (λ q. leaf_over p (path ++ q)) _ (over_each path) ls e

  first_over : (x : List ℕ) (path : LeafPath) (ls : List NumberedLeaf) (steps leaf : List ℕ)
      → Some steps ≡ option_map (flat_map step_text) (first_where (leaf_is_over u) ls) → leaf ≡ path_text (named x ∷ path) ++ steps
      → first_of (numbers_over u p (named x ∷ path) ls) ≡ Some (word_over p leaf)
  first_over x path ls steps leaf e text = first_told (leaf_is_over u) (λ q. leaf_over p (named x ∷ path ++ q)) _ (over_each (named x ∷ path)) ls steps (word_over p leaf) e
      (λ q h. ap (word_over p) (path_joined x path q ∙ ap (λ t. path_text (named x ∷ path) ++ t) h ∙ sym text))

-- whether anything is over
found_or : (b : Bool) (p : LeafPath) (o : Option LeafPath) (any : Bool) → any ≡ is_some o → b || any ≡ is_some (if b then Some p else o)
found_or true p o any e = refl
found_or false p o any e = e

any_over : (u : Widths) (ls : List NumberedLeaf) → is_any_over u ls ≡ is_some (first_where (leaf_is_over u) ls)
any_over u [] = refl
any_over u (l ∷ ls) = found_or (leaf_is_over u l) l.path (first_where (leaf_is_over u) ls) (is_any_over u ls) (any_over u ls)

-- what is declared begins with its name
pub none_in_name : (u : Widths) (n : PlacedName) (ls : List NumberedLeaf) → None ≡ option_map (flat_map step_text) (first_where (leaf_is_over u) ls) → named_over u n ls ≡ []
none_in_name u n ls e = none_over u n.place (named n.name ∷ []) ls e

pub first_in_name : (u : Widths) (n : PlacedName) (ls : List NumberedLeaf) (steps leaf : List ℕ) → Some steps ≡ option_map (flat_map step_text) (first_where (leaf_is_over u) ls)
    → leaf ≡ n.name ++ steps → first_of (named_over u n ls) ≡ Some (word_over n.place leaf)
first_in_name u n ls steps leaf e text = first_over u n.place n.name [] ls steps leaf e (text ∙ ap (λ x. x ++ steps) (sym (append-nil n.name)))

-- a reference begins with its own steps
path_grown : (path : LeafPath) (ps : Parts) → first_path path ps ≡ path ++ steps_of ps
path_grown path no_parts = sym (append-nil path)
path_grown path (subfield first q x rest) = path_grown (path ++ named x ∷ []) rest ∙ append_assoc path (named x ∷ []) (steps_of rest)
path_grown path (subindex first q i rest) = path_grown (path ++ element i ∷ []) rest ∙ append_assoc path (element i ∷ []) (steps_of rest)
path_grown path (subaccess first e rest) = path_grown (path ++ element 0 ∷ []) rest ∙ append_assoc path (element 0 ∷ []) (steps_of rest)

pub none_in_sink : (u : Widths) (s : SinkReference) (ls : List NumberedLeaf) → None ≡ option_map (flat_map step_text) (first_where (leaf_is_over u) ls) → sink_over u s ls ≡ []
none_in_sink u s ls e = none_over u s.place (first_path (named s.name ∷ []) s.parts) ls e

pub first_in_sink : (u : Widths) (s : SinkReference) (ls : List NumberedLeaf) (steps leaf : List ℕ) → Some steps ≡ option_map (flat_map step_text) (first_where (leaf_is_over u) ls)
    → leaf ≡ path_text (sink_path s) ++ steps → first_of (sink_over u s ls) ≡ Some (word_over s.place leaf)
first_in_sink u s ls steps leaf e text =
    ap (λ path. first_of (numbers_over u s.place path ls)) (path_grown (named s.name ∷ []) s.parts)
    ∙ first_over u s.place s.name (steps_of s.parts) ls steps leaf e text

-- inputs without a width
module _ (n : PlacedName) (inward : Bool) where
  lacking : (flip : Bool) (path : LeafPath) (t : DataType)
      → (if flip then unwritten_leaf n path t else []) ≡ (if flip && lacks_width t then no_port_width n.place (named n.name ∷ path) ∷ [] else [])
  lacking false path t = refl
  lacking true path (uint None) = refl
  lacking true path (uint (Some w)) = refl
  lacking true path (sint None) = refl
  lacking true path (sint (Some w)) = refl
  lacking true path clock = refl
  lacking true path reset = refl
  lacking true path async_reset = refl
  lacking true path (bundle fs) = refl
  lacking true path (vector t k) = refl

  unwritten_each : (l : NumberedLeaf) → (if turned inward l.flip then unwritten_leaf n l.path l.ground_type else [])
      ≡ (if is_unwritten_input inward l then no_port_width n.place (named n.name ∷ l.path) ∷ [] else [])
  unwritten_each l = lacking (turned inward l.flip) l.path l.ground_type

  pub none_unwritten : (ls : List NumberedLeaf) → None ≡ option_map (flat_map step_text) (first_where (is_unwritten_input inward) ls) → unwritten_in n inward ls ≡ []
  none_unwritten ls e = nothing_told (is_unwritten_input inward) (λ q. no_port_width n.place (named n.name ∷ q)) _ unwritten_each ls e

  pub first_unwritten : (ls : List NumberedLeaf) (steps leaf : List ℕ) → Some steps ≡ option_map (flat_map step_text) (first_where (is_unwritten_input inward) ls)
      → leaf ≡ n.name ++ steps → first_of (unwritten_in n inward ls) ≡ Some (fault_of (fault.PortWidth n.place leaf))
  first_unwritten ls steps leaf e text =
      first_told (is_unwritten_input inward) (λ q. no_port_width n.place (named n.name ∷ q)) _ unwritten_each ls steps (fault_of (fault.PortWidth n.place leaf)) e
      (λ q h. rw (text, ← h) refl)

-- a type that is written, and its widths
abbrev SaysOver : Fitting
SaysOver = λ number t w. says_over t ≡ nat_lt 128 (width_under w (λ k. 0))

over_capped : (w : ℕ) → nat_lt 128 w ≡ nat_lt 128 (min w 129)
over_capped w = grind (arith, nat_tests)

says_uint : (w : Option ℕ) → says_over (uint w) ≡ nat_lt 128 (width_under (leaf_width None w) (λ k. 0))
says_uint None = refl
says_uint (Some w) = over_capped w

says_sint : (w : Option ℕ) → says_over (sint w) ≡ nat_lt 128 (width_under (leaf_width None w) (λ k. 0))
says_sint None = refl
says_sint (Some w) = over_capped w

says_grounds : (at : Option ℕ) → at ≡ None → GroundsFit SaysOver at
says_grounds at is = rw is (record {
  of_uint = λ number w. says_uint w;
  of_sint = λ number w. says_sint w;
  of_clock = λ number. refl;
  of_reset = λ number. refl;
  of_async = λ number. refl;
})

module _ (p : Place) (path : LeafPath) where
  says_each : (ls : List NumberedLeaf) (ss : List SizedLeaf) → AreAlike SaysOver ls ss
      → flat_map (λ s. if is_leaf_over (λ k. 0) s then leaf_over p (path ++ s.path) ∷ [] else []) ss
      ≡ flat_map (λ l. if leaf_says_over l then leaf_over p (path ++ l.path) ∷ [] else []) ls
  says_each [] [] h = refl
  says_each [] (s ∷ ss) h = absurd h
  says_each (l ∷ ls) [] h = absurd h
  says_each (l ∷ ls) (s ∷ ss) h = rw (h.0.fits, h.0.path, says_each ls ss h.1) refl

  says_written : (t : DataType) → leaves_over (λ k. 0) p path (numbered None t) ≡ flat_map (λ l. if leaf_says_over l then leaf_over p (path ++ l.path) ∷ [] else []) (numbered_leaves 0 t)
  says_written t = says_each (numbered_leaves 0 t) (sized_leaves (numbered None t))
      (written_alike SaysOver (λ at. at ≡ None) (λ n at is. ap (past n) is) says_grounds 0 None refl t)

pub none_written : (n : PlacedName) (t : DataType) → None ≡ option_map (flat_map step_text) (first_where leaf_says_over (numbered_leaves 0 t)) → written_over n t ≡ []
none_written n t e =
    says_written n.place (named n.name ∷ []) t
    ∙ nothing_told leaf_says_over (λ q. leaf_over n.place (named n.name ∷ [] ++ q)) _ (λ l. refl) (numbered_leaves 0 t) e

pub first_written : (n : PlacedName) (t : DataType) (steps leaf : List ℕ) → Some steps ≡ option_map (flat_map step_text) (first_where leaf_says_over (numbered_leaves 0 t))
    → leaf ≡ n.name ++ steps → first_of (written_over n t) ≡ Some (word_over n.place leaf)
first_written n t steps leaf e text =
    ap first_of (says_written n.place (named n.name ∷ []) t)
    ∙ first_told leaf_says_over (λ q. leaf_over n.place (named n.name ∷ [] ++ q)) _ (λ l. refl) (numbered_leaves 0 t) steps (word_over n.place leaf) e
    (λ q h. rw (text, ← h) refl)

-- told by whether a path is found
pub any_found : {A : Type 0} (text : A → List ℕ) (u : Widths) (ls : List NumberedLeaf) (found : Option A)
    → option_map text found ≡ option_map (flat_map step_text) (first_where (leaf_is_over u) ls) → is_some found ≡ is_any_over u ls
any_found text u ls found e = sym (is_mapped text found) ∙ ap is_some e ∙ is_mapped (flat_map step_text) (first_where (leaf_is_over u) ls) ∙ sym (any_over u ls) where
  is_mapped : {A B : Type 0} (f : A → B) (o : Option A) → is_some (option_map f o) ≡ is_some o
  is_mapped f None = refl
  is_mapped f (Some p) = refl
