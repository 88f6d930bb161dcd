-- What stands before an item, beside the tree that it stands in: the same names, kinds, drivers and words.
use Rattle.std.proofs.Common.{◌≡◌, ℕ, ◌+◌, List, [], ◌∷◌, map, Bool, true, false, if◌then◌else◌, refl, sym, ap, ◌∙◌, inl, inr, ◌⊎◌, ⊎_elim, subst}
use Rattle.std.specs.Prelude.{Option, Some, None, option_map}
use Rattle.std.specs.Str.{bytes_eq}
use Rattle.std.proofs.lemmas.Option.{none-some}
use Rattle.fir_base.specs.Lists.{In}
use Rattle.fir_base.proofs.Members.{in_left, in_right, in_either, in_flat_map, in_flat_map_from}
use Rattle.fir_base.proofs.SameNames.{name_other}
use Rattle.ver_ast.specs.declared.tree.Verilog.{Verilog}
use Rattle.ver_ast.specs.Nets.{SizedNet, Variable, clocks, output_clocks, nets, regs, wires, output_nets, arrays}
use Rattle.ver_valid.specs.declared.declared.Declared.{Declared}
use Rattle.ver_valid.specs.declared.declared.Declared.TheVariants.{ClockInput, ClockOutput, Input, Output, Wire, Register, Array}
use Rattle.ver_valid.specs.working.Declarations.{Entry, entries, entry_names, kind_among}
use Rattle.ver_valid.specs.working.Kinds.{net_width, register_width, output_width, wire_width, word_width, is_clock_input as clock_input_test, is_clock_output, array_of, array_entry}
use Rattle.ver_valid.specs.working.Scopes.{IsFine, HasArray, driven_nets}
use Rattle.ver_valid.specs.working.Walks.{IsFresh, assigned_names, written_names, words_of}
use Rattle.ver_valid.proofs.Entries.{nets_are, regs_are, wires_are, outputs_are, clocks_are, output_clocks_are, arrays_are}
use Rattle.ver_valid.proofs.EntryKinds.{Sized, sized_kind, kind_sized, kind_chosen, chosen_kind, kind_in, kind_of_entry, known_or_not}
use Rattle.ver_check.specs.declared.kind.Kind.{Kind}
use Rattle.ver_check.specs.declared.kind.Kind.TheVariants as kind
use Rattle.ver_check.specs.Scopes.{Declaration, Scope, declaration_of, kind_of, kind_bits, register_bits, word_bits, found_by, bits_of}
use Rattle.ver_check.specs.ItemFaults.{Before, Driver}

abbrev pub kind_as : Declared → Kind
kind_as ClockInput = kind.ClockInput
kind_as ClockOutput = kind.ClockOutput
kind_as (Input w) = kind.Input w
kind_as (Output w) = kind.Output w
kind_as (Wire w) = kind.Wire w
kind_as (Register w) = kind.Register w
kind_as (Array w last) = kind.Array w

-- a name and what it is declared as, without the place
abbrev pub Named : Type 0
Named = List ℕ × Kind

abbrev pub named : Declaration → Named
named d = (d.name, d.kind)

abbrev pub named_entry : Entry → Named
named_entry e = (e.0, kind_as e.1)

abbrev pub driver_names : List Driver → List (List ℕ)
driver_names = map (λ d. d.name)

pub record Mirrors (before : Before) (v : Verilog) : Type 0 where
  pub scope : map named before.scope ≡ map named_entry (entries v)
  pub assigned : driver_names before.assigned ≡ assigned_names v
  pub written : driver_names before.written ≡ written_names v
  pub words : before.words ≡ words_of (arrays v)

abbrev named_kind : List Named → List ℕ → Option Kind
named_kind [] n = None
named_kind (p ∷ ps) n = if bytes_eq n p.0 then Some p.1 else named_kind ps n

mapped_choice : {S T : Type 0} (f : S → T) (b : Bool) (s : S) (o : Option S) → option_map f (if b then Some s else o) ≡ (if b then Some (f s) else option_map f o)
mapped_choice f true s o = refl
mapped_choice f false s o = refl

declared_kind : (ds : Scope) (n : List ℕ) → kind_of ds n ≡ named_kind (map named ds) n
declared_kind [] n = refl
declared_kind (d ∷ ds) n =
    mapped_choice (λ (x : Declaration). x.kind) (bytes_eq n d.name) d (declaration_of ds n)
    ∙ ap (λ (o : Option Kind). if bytes_eq n d.name then Some d.kind else o) (declared_kind ds n)

entry_kind : (es : List Entry) (n : List ℕ) → option_map kind_as (kind_among es n) ≡ named_kind (map named_entry es) n
entry_kind [] n = refl
entry_kind (e ∷ es) n =
    mapped_choice kind_as (bytes_eq n e.0) e.1 (kind_among es n)
    ∙ ap (λ (o : Option Kind). if bytes_eq n e.0 then Some (kind_as e.1) else o) (entry_kind es n)

abbrev width_by : (Declared → Option ℕ) → Option Declared → Option ℕ
width_by width None = None
width_by width (Some d) = width d

bits_are : (d : Declared) → kind_bits (kind_as d) ≡ net_width d
bits_are ClockInput = refl
bits_are _ = refl

register_bits_are : (d : Declared) → register_bits (kind_as d) ≡ register_width d
register_bits_are (Register w) = refl
register_bits_are _ = refl

word_bits_are : (d : Declared) → word_bits (kind_as d) ≡ word_width d
word_bits_are (Array w last) = refl
word_bits_are _ = refl

clock_input_is : (d : Declared) → kind_as d ≡ kind.ClockInput → clock_input_test d ≡ true
clock_input_is ClockInput e = refl
clock_input_is _ e = cc

is_clock_input_kind : (d : Declared) → clock_input_test d ≡ true → kind_as d ≡ kind.ClockInput
is_clock_input_kind ClockInput e = refl
is_clock_input_kind _ e = cc

clock_output_is : (d : Declared) → kind_as d ≡ kind.ClockOutput → is_clock_output d ≡ true
clock_output_is ClockOutput e = refl
clock_output_is _ e = cc

is_clock_output_kind : (d : Declared) → is_clock_output d ≡ true → kind_as d ≡ kind.ClockOutput
is_clock_output_kind ClockOutput e = refl
is_clock_output_kind _ e = cc

output_is : (d : Declared) (x : ℕ) → kind_as d ≡ kind.Output x → output_width d ≡ Some x
output_is (Output w) x e = cc
output_is _ x e = cc

is_output_kind : (d : Declared) (x : ℕ) → output_width d ≡ Some x → kind_as d ≡ kind.Output x
is_output_kind (Output w) x e = cc
is_output_kind _ x e = cc

wire_is : (d : Declared) (x : ℕ) → kind_as d ≡ kind.Wire x → wire_width d ≡ Some x
wire_is (Wire w) x e = cc
wire_is _ x e = cc

is_wire_kind : (d : Declared) (x : ℕ) → wire_width d ≡ Some x → kind_as d ≡ kind.Wire x
is_wire_kind (Wire w) x e = cc
is_wire_kind _ x e = cc

module _ (before : Before) (v : Verilog) (mirrors : Mirrors before v) (fine : IsFine v) (n : List ℕ) where
  abbrev declared_as : Option Declared
  declared_as = kind_among (entries v) n

  pub kind_known : kind_of before.scope n ≡ option_map kind_as declared_as
  kind_known = declared_kind before.scope n ∙ ap (λ (ps : List Named). named_kind ps n) mirrors.scope ∙ sym (entry_kind (entries v) n)

  -- a kind that is found is that of an entry
  kind_back : (k : Kind) → kind_of before.scope n ≡ Some k → (d : Declared) × (declared_as ≡ Some d) × (kind_as d ≡ k)
  kind_back k e = by declared_as refl (sym kind_known ∙ e)
    where
      by : (o : Option Declared) → declared_as ≡ o → option_map kind_as o ≡ Some k → (d : Declared) × (declared_as ≡ Some d) × (kind_as d ≡ k)
      by None s h = absurd (none-some k h)
      by (Some d) s h = (d, s, cc)

  kind_from : (d : Declared) (k : Kind) → declared_as ≡ Some d → kind_as d ≡ k → kind_of before.scope n ≡ Some k
  kind_from d k e is = kind_known ∙ ap (option_map kind_as) e ∙ ap (λ (x : Kind). Some x) is

  module _ (bits : Kind → Option ℕ) (width : Declared → Option ℕ) (same : (d : Declared) → bits (kind_as d) ≡ width d) where
    bits_known : bits_of bits before.scope n ≡ width_by width declared_as
    bits_known = ap (found_by bits) kind_known ∙ by declared_as
      where
        by : (o : Option Declared) → found_by bits (option_map kind_as o) ≡ width_by width o
        by None = refl
        by (Some d) = same d

    to_sized : (x : ℕ) → bits_of bits before.scope n ≡ Some x → Sized width (entries v) fine.once n x
    to_sized x e = by declared_as refl (sym bits_known ∙ e)
      where
        by : (o : Option Declared) → declared_as ≡ o → width_by width o ≡ Some x → Sized width (entries v) fine.once n x
        by None s h = absurd (none-some x h)
        by (Some d) s h = kind_sized width (entries v) fine.once n d x s h

    from_sized : (x : ℕ) → Sized width (entries v) fine.once n x → bits_of bits before.scope n ≡ Some x
    from_sized x m = let r = sized_kind width (entries v) fine.once n x m in bits_known ∙ ap (width_by width) r.1 ∙ r.2

  pub bits_net : (x : ℕ) → bits_of kind_bits before.scope n ≡ Some x → In (nets v) (n, x)
  bits_net x e = subst (λ (xs : List SizedNet). In xs (n, x)) (sym (nets_are v)) (to_sized kind_bits net_width bits_are x e)

  pub net_bits : (x : ℕ) → In (nets v) (n, x) → bits_of kind_bits before.scope n ≡ Some x
  net_bits x m = from_sized kind_bits net_width bits_are x (subst (λ (xs : List SizedNet). In xs (n, x)) (nets_are v) m)

  pub bits_register : (x : ℕ) → bits_of register_bits before.scope n ≡ Some x → In (regs v) (n, x)
  bits_register x e = subst (λ (xs : List SizedNet). In xs (n, x)) (sym (regs_are v)) (to_sized register_bits register_width register_bits_are x e)

  pub register_is : (x : ℕ) → In (regs v) (n, x) → bits_of register_bits before.scope n ≡ Some x
  register_is x m = from_sized register_bits register_width register_bits_are x (subst (λ (xs : List SizedNet). In xs (n, x)) (regs_are v) m)

  -- arrays
  words_in : (d : Declared) (x : ℕ) → word_width d ≡ Some x → (k : Variable) × In (array_of n d) k × (k.name ≡ n) × (k.width ≡ x)
  words_in (Array y last) x e = (record { name = n; width = y; depth = last + 1 }, inl refl, refl, cc)
  words_in ClockInput x e = absurd (none-some x e)
  words_in ClockOutput x e = absurd (none-some x e)
  words_in (Input y) x e = absurd (none-some x e)
  words_in (Output y) x e = absurd (none-some x e)
  words_in (Wire y) x e = absurd (none-some x e)
  words_in (Register y) x e = absurd (none-some x e)

  words_of_array : (m : List ℕ) (d : Declared) (k : Variable) → In (array_of m d) k → (k.name ≡ m) × (word_width d ≡ Some k.width)
  words_of_array m (Array y last) k (inl e) = (ap (λ (z : Variable). z.name) (sym e), ap (λ (z : Variable). Some z.width) e)
  words_of_array m (Array y last) k (inr i) = absurd i
  words_of_array m ClockInput k i = absurd i
  words_of_array m ClockOutput k i = absurd i
  words_of_array m (Input y) k i = absurd i
  words_of_array m (Output y) k i = absurd i
  words_of_array m (Wire y) k i = absurd i
  words_of_array m (Register y) k i = absurd i

  pub bits_word : (x : ℕ) → bits_of word_bits before.scope n ≡ Some x → HasArray v n x
  bits_word x e = by declared_as refl (sym (bits_known word_bits word_width word_bits_are) ∙ e)
    where
      by : (o : Option Declared) → declared_as ≡ o → width_by word_width o ≡ Some x → HasArray v n x
      by None s h = absurd (none-some x h)
      by (Some d) s h =
          let r = words_in d x h in
          (r.0, subst (λ (ks : List Variable). In ks r.0) (sym (arrays_are v)) (in_flat_map array_entry (entries v) (n, d) r.0 (kind_in (entries v) n d s) r.1), r.2, r.3)

  pub word_is : (x : ℕ) → HasArray v n x → bits_of word_bits before.scope n ≡ Some x
  word_is x h =
      let r = in_flat_map_from array_entry (entries v) h.0 (subst (λ (ks : List Variable). In ks h.0) (arrays_are v) h.1) in
      let s = words_of_array r.0.0 r.0.1 h.0 r.2 in
      let name : r.0.0 ≡ n = sym s.0 ∙ h.2 in
      let entry : In (entries v) (n, r.0.1) = subst (λ (y : List ℕ). In (entries v) (y, r.0.1)) name r.1 in
      bits_known word_bits word_width word_bits_are ∙ ap (width_by word_width) (kind_of_entry (entries v) fine.once n r.0.1 entry) ∙ s.1
      ∙ ap (λ (y : ℕ). Some y) h.3

  -- clocks
  pub clock_in : kind_of before.scope n ≡ Some kind.ClockInput → In (clocks v) n
  clock_in e =
      let r = kind_back kind.ClockInput e in
      subst (λ (xs : List (List ℕ)). In xs n) (sym (clocks_are v)) (kind_chosen clock_input_test (entries v) fine.once n r.0 r.1 (clock_input_is r.0 r.2))

  pub clock_is : In (clocks v) n → kind_of before.scope n ≡ Some kind.ClockInput
  clock_is m =
      let r = chosen_kind clock_input_test (entries v) fine.once n (subst (λ (xs : List (List ℕ)). In xs n) (clocks_are v) m) in
      kind_from r.0 kind.ClockInput r.1 (is_clock_input_kind r.0 r.2)

  pub clock_output_in : kind_of before.scope n ≡ Some kind.ClockOutput → In (output_clocks v) n
  clock_output_in e =
      let r = kind_back kind.ClockOutput e in
      subst (λ (xs : List (List ℕ)). In xs n) (sym (output_clocks_are v)) (kind_chosen is_clock_output (entries v) fine.once n r.0 r.1 (clock_output_is r.0 r.2))

  pub clock_output_kind : In (output_clocks v) n → kind_of before.scope n ≡ Some kind.ClockOutput
  clock_output_kind m =
      let r = chosen_kind is_clock_output (entries v) fine.once n (subst (λ (xs : List (List ℕ)). In xs n) (output_clocks_are v) m) in
      kind_from r.0 kind.ClockOutput r.1 (is_clock_output_kind r.0 r.2)

  -- wires and outputs
  pub wire_in : (x : ℕ) → kind_of before.scope n ≡ Some (kind.Wire x) → In (driven_nets v) (n, x)
  wire_in x e =
      let r = kind_back (kind.Wire x) e in
      in_left (wires v) (output_nets v) (n, x)
      (subst (λ (xs : List SizedNet). In xs (n, x)) (sym (wires_are v)) (kind_sized wire_width (entries v) fine.once n r.0 x r.1 (wire_is r.0 x r.2)))

  pub output_in : (x : ℕ) → kind_of before.scope n ≡ Some (kind.Output x) → In (driven_nets v) (n, x)
  output_in x e =
      let r = kind_back (kind.Output x) e in
      in_right (wires v) (output_nets v) (n, x)
      (subst (λ (xs : List SizedNet). In xs (n, x)) (sym (outputs_are v)) (kind_sized output_width (entries v) fine.once n r.0 x r.1 (output_is r.0 x r.2)))

  pub driven_kind : (x : ℕ) → In (driven_nets v) (n, x) → (kind_of before.scope n ≡ Some (kind.Wire x)) ⊎ (kind_of before.scope n ≡ Some (kind.Output x))
  driven_kind x m =
      ⊎_elim
      (λ (i : In (wires v) (n, x)).
      let r = sized_kind wire_width (entries v) fine.once n x (subst (λ (xs : List SizedNet). In xs (n, x)) (wires_are v) i) in
      inl (kind_from r.0 (kind.Wire x) r.1 (is_wire_kind r.0 x r.2)))
      (λ (i : In (output_nets v) (n, x)).
      let r = sized_kind output_width (entries v) fine.once n x (subst (λ (xs : List SizedNet). In xs (n, x)) (outputs_are v) i) in
      inr (kind_from r.0 (kind.Output x) r.1 (is_output_kind r.0 x r.2)))
      (in_either (wires v) (output_nets v) (n, x) m)

  -- names that are not declared
  pub fresh_in : kind_of before.scope n ≡ None → IsFresh v n
  fresh_in e m = known_or_not (entries v) n m (by declared_as (sym kind_known ∙ e))
    where
      by : (o : Option Declared) → option_map kind_as o ≡ None → o ≡ None
      by None h = refl
      by (Some d) h = absurd (none-some (kind_as d) (sym h))

  pub fresh_kind : IsFresh v n → kind_of before.scope n ≡ None
  fresh_kind new = kind_known ∙ ap (option_map kind_as) (unknown (entries v) new)
    where
      unknown : (es : List Entry) → (In (entry_names es) n → ⊥) → kind_among es n ≡ None
      unknown [] h = refl
      unknown (e ∷ es) h = rw (name_other n e.0 (λ s. h (inl (sym s)))) (unknown es (λ m. h (inr m)))
