-- The processes of the tree in an order: those of nodes and of registers with a reset along the order of the net, then the nets of writes, and then the
-- outputs.
use Rattle.std.proofs.Common.{◌≡◌, ℕ, List, [], ◌∷◌, ◌++◌, map, flat_map, true, false, refl, sym, ap, ◌∙◌, inl, inr, ⊎_elim, subst, append_assoc, Option, Some, None}
use Rattle.std.specs.Prelude.{slice_get}
use Rattle.std.proofs.lemmas.List.{map-append}
use Rattle.fir_base.specs.Lists.{In, EachIn}
use Rattle.fir_base.proofs.Each.{each_joined}
use Rattle.fir_base.proofs.Members.{in_left, in_right, in_map}
use Rattle.fir_net.specs.declared.reads.Read.{Read}
use Rattle.fir_net.specs.declared.reads.Read.TheVariants as read
use Rattle.fir_net.specs.declared.leaf.Reset.{Reset}
use Rattle.fir_net.specs.declared.leaf.Role.{Role}
use Rattle.fir_net.specs.declared.leaf.Role.TheVariants as role
use Rattle.fir_net.specs.declared.leaf.Leaf.{Leaf}
use Rattle.fir_net.specs.declared.net.FlatNet.{FlatNet}
use Rattle.fir_net.specs.working.Counted.{is_register}
use Rattle.fir_net.specs.working.Dependence.{Reads}
use Rattle.fir_net_names.specs.declared.name_table.NameTable.{NameTable}
use Rattle.fir_net_names.specs.working.LeafNamed.{name_at}
use Rattle.ver_ast.specs.Nets.{SizedNet, input_nets, names_of, plain_regs}
use Rattle.ver_ast.specs.Processes.{Process, assigning, showing}
use Rattle.ver_ast.specs.Valid.{ReadsBefore}
use Rattle.ver_build.specs.declared.held.Source.{Source}
use Rattle.ver_build.specs.declared.places.Places.{Places}
use Rattle.ver_build.specs.working.Places.{bit_net, held_of, source_name}
use Rattle.ver_build.specs.working.ArrayBlocks.{write_inners}
use Rattle.ver_build.specs.working.Blocks.{own_net, reset_net}
use Rattle.ver_build.proofs.Premises.{Premises}
use Rattle.ver_build.proofs.OrderedLeaves.{ordered_names, ordered_leaves, ordered_picked}
use Rattle.ver_build.proofs.Parts.{in_parts, output_assigns}
use Rattle.ver_build.proofs.LeafKinds.{is_input, is_reading, picked_names}
use Rattle.ver_build.proofs.Nets.{inputs_sized}
use Rattle.ver_build.proofs.Standing.{IsKnown}
use Rattle.ver_build.proofs.OperandNames.{atom_known}
use Rattle.ver_build.proofs.Words.{IsWord, word_edge, leaf_word, named_word}
use Rattle.ver_build.proofs.ResetNames.{IsBit, HasNet, bit_source, reset_view}
use Rattle.ver_build.proofs.ReadsStand.{word_reads}
use Rattle.ver_build.proofs.TextOrder.{Within}
use Rattle.ver_build.proofs.PlainRegisters.{plain_in}
use Rattle.ver_build.proofs.Placed.{has_own, inner_process, more_held, leaf_known, given_at, in_order}
use Rattle.ver_build.proofs.TextReads.{writes_after}
use Rattle.ver_build.proofs.ShownWords.{word_shown, role_shown, leaf_shown, word_resetting}

-- the net of one bit that a value is all of is known where the value is
bit_known : (known : List (List ℕ)) (s : Source) (name : List ℕ) → bit_net s ≡ Some name → EachIn (source_name s) known → In known name
bit_known known s name e h = (subst (λ (x : Source). EachIn (source_name x) known) (bit_source s name e) h).0

input_or_else : (r : Role) → has_own r ≡ true → (is_register r ≡ true → ⊥) → is_input r ≡ true
input_or_else role.Input e n = refl
input_or_else (role.Register r) e n = absurd (n refl)
input_or_else _ e n = absurd (cc)

module _ (net : FlatNet) (t : NameTable) (p : Places) (order : List Read) (is : Premises net t p order) where
  -- the inputs, and the registers without a reset
  abbrev pub first_names : List (List ℕ)
  first_names = names_of (input_nets (in_parts net t p order) ++ plain_regs (in_parts net t p order))

  input_first : (k : ℕ) (l : Leaf) (name : List ℕ) → slice_get net.leaves k ≡ Some l → is_input l.role ≡ true → name_at t.leaves k ≡ Some name
      → In first_names name
  input_first k l name at kind named =
      let ins = input_nets (in_parts net t p order) in
      let plain = plain_regs (in_parts net t p order) in
      subst (λ (ns : List (List ℕ)). In ns name) (sym (map-append (λ (s : SizedNet). s.0) ins plain))
      (in_left (names_of ins) (names_of plain) name
      (subst (λ (ns : List (List ℕ)). In ns name)
      (sym (ap names_of (inputs_sized net t p order) ∙ picked_names is_input (ordered_names net t) (ordered_leaves net)))
      (ordered_picked net t is.whole is.table is_input k l name at kind named)))

  plain_first : (k : ℕ) (w : IsWord net t k) → w.own.reset ≡ None → In first_names w.name
  plain_first k w none =
      let ins = input_nets (in_parts net t p order) in
      let plain = plain_regs (in_parts net t p order) in
      subst (λ (ns : List (List ℕ)). In ns w.name) (sym (map-append (λ (s : SizedNet). s.0) ins plain))
      (in_right (names_of ins) (names_of plain) w.name (in_map (λ (s : SizedNet). s.0) plain (w.name, w.leaf.width) (plain_in net t p order is k w none)))

  -- what is known at a leaf, and what is to be known behind it
  abbrev pub Below : List (List ℕ) → ℕ → Type 0
  Below known k = (w : Read) → Reads net (read.Leaf k) w → IsKnown known (held_of p w)

  abbrev pub Then : List (List ℕ) → ℕ → List Process → Type 0
  Then known k more = (after : List (List ℕ)) → Within known after → IsKnown after (held_of p (read.Leaf k)) → ReadsBefore after more

  -- the leaf of a word is known where its own name is
  word_known : (known : List (List ℕ)) (k : ℕ) (w : IsWord net t k) → In known w.name → Below known k → IsKnown known (held_of p (read.Leaf k))
  word_known known k w m below =
      leaf_known net t p order is known k w.leaf w.at (λ kind name named. let same : w.name ≡ name = let n = w.named in cc in subst (In known) same m)
      (λ e. let bad : false ≡ true = sym (ap is_reading w.register) ∙ e in absurd (cc)) below

  below_more : (known after : List (List ℕ)) (k : ℕ) → Within known after → Below known k → Below after k
  below_more known after k f below = λ w reads. more_held known after (held_of p w) f (below w reads)

  -- the register shows itself where its reset is known
  shown_step : (known : List (List ℕ)) (k : ℕ) (w : IsWord net t k) (r : Reset) (more : List Process) → In known (reset_net p k r) → Below known k
      → Then known k more → ReadsBefore known (showing (word_resetting net t p k w r) ∷ more)
  shown_step known k w r more reset below go = (
    (reset, tt),
    go (w.name ∷ known) (λ x m. inr m)
        (word_known (w.name ∷ known) k w (inl refl) (below_more known (w.name ∷ known) k (λ x m. inr m) below)),
  )

  reset_step : (known : List (List ℕ)) (k : ℕ) → In net.state k → (w : IsWord net t k) → (r : Reset) → w.own.reset ≡ Some r → (more : List Process)
      → Below known k → Then known k more
      → (n : Option (List ℕ)) → name_at p.resets k ≡ n
      → ReadsBefore known (map inner_process (own_net p (Some r) n) ++ showing (word_resetting net t p k w r) ∷ more)
  reset_step known k m w r has more below go None named =
      shown_step known k w r more
      (⊎_elim
      (λ (b : IsBit p k r).
      subst (In known) (sym b.is) (bit_known known (held_of p r.condition).source b.name b.all_of (below r.condition (word_reads net t p order is k w r has))))
      (λ (h : HasNet p k r). let n = h.named in absurd (cc))
      (reset_view net t p order is k m w r has))
      below go
  reset_step known k m w r has more below go (Some own) named =
      let cond_known = below r.condition (word_reads net t p order is k w r has) in (
        each_joined _ [] known (atom_known known 1 (held_of p r.condition) cond_known) tt,
        shown_step (own ∷ known) k w r more
            (⊎_elim
            (λ (b : IsBit p k r). inr (subst (In known) (sym b.is) (bit_known known (held_of p r.condition).source b.name b.all_of cond_known)))
            (λ (h : HasNet p k r). inl (let n = h.named in let same : h.name ≡ own = cc in sym (h.is ∙ same)))
            (reset_view net t p order is k m w r has))
            (below_more known (own ∷ known) k (λ x n. inr n) below)
            (λ after f h. go after (λ x n. f x (inr n)) h),
      )

  -- a leaf that is no register
  other_known : (known : List (List ℕ)) (k : ℕ) (l : Leaf) → slice_get net.leaves k ≡ Some l → (is_register l.role ≡ true → ⊥) → Within first_names known
      → (is_reading l.role ≡ true → IsKnown known (held_of p (read.Leaf k))) → Below known k → IsKnown known (held_of p (read.Leaf k))
  other_known known k l at none start has below =
      leaf_known net t p order is known k l at
      (λ kind name named. start name (input_first k l name at (input_or_else l.role kind none) named)) has below

  word_step : (known : List (List ℕ)) (k : ℕ) → In net.state k → (w : IsWord net t k) → (reset : Option Reset) → w.own.reset ≡ reset → (more : List Process)
      → Within first_names known → Below known k → Then known k more
      → ReadsBefore known (word_shown p k w.leaf.width w.name reset (word_edge net t p k w) ++ more)
  word_step known k m w None has more start below go = go known (λ x n. n) (word_known known k w (start w.name (plain_first k w has)) below)
  word_step known k m w (Some r) has more start below go =
      rw (append_assoc (map inner_process (own_net p (Some r) (name_at p.resets k))) (showing (word_resetting net t p k w r) ∷ []) more)
      (reset_step known k m w r has more below go (name_at p.resets k) refl)

  role_step : (known : List (List ℕ)) (k : ℕ) (l : Leaf) (d : Role) (n : Option (List ℕ)) (more : List Process) → slice_get net.leaves k ≡ Some l
      → l.role ≡ d → name_at t.leaves k ≡ n → Within first_names known → (is_reading l.role ≡ true → IsKnown known (held_of p (read.Leaf k)))
      → Below known k → Then known k more
      → ReadsBefore known (role_shown t p k d l.width n ++ more)
  role_step known k l (role.Register d) (Some name) more at e named start has below go =
      word_step known k (named_word net t is.whole is.table k l name at (ap is_register e) named) (leaf_word net t is.whole is.table k l d name at e named)
      d.reset refl more start below go
  role_step known k l (role.Register d) None more at e named start has below go =
      go known (λ x m. m) (leaf_known net t p order is known k l at (λ kind name other. let no : None ≡ Some name = sym named ∙ other in absurd (cc)) has below)
  role_step known k l d n more at e named start has below go =
      go known (λ x m. m) (other_known known k l at (λ h. let no : is_register d ≡ true = ap is_register (sym e) ∙ h in cc) start has below)

  pub leaf_step : (known : List (List ℕ)) (k : ℕ) (l : Leaf) (more : List Process) → slice_get net.leaves k ≡ Some l → Within first_names known
      → (is_reading l.role ≡ true → IsKnown known (held_of p (read.Leaf k))) → Below known k → Then known k more
      → ReadsBefore known (leaf_shown net t p k ++ more)
  leaf_step known k l more at start has below go =
      rw at (role_step known k l l.role (name_at t.leaves k) more at refl refl start has below go)

  abbrev pub given : Read → List Process
  given = given_at net t p order is first_names (leaf_shown net t p) leaf_step

  -- the nets of writes, and then the outputs
  abbrev pub ends : List Process
  ends = map inner_process (write_inners net p) ++ map assigning (output_assigns net t p order)

  abbrev pub process_order : List Process
  process_order = flat_map given order ++ ends

  pub processes_ordered : ReadsBefore first_names process_order
  processes_ordered =
      in_order net t p order is first_names (leaf_shown net t p) leaf_step ends (λ known start all. writes_after net t p order is known all)
