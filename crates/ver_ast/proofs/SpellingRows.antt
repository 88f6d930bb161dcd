-- Small texts with what they spell, trees that are spelled and not valid, and the places of tokens.
use Rattle.std.proofs.Common.{◌≡◌, ℕ, List, [], ◌∷◌, ◌++◌, Option, Some, None, refl, sym, ap, ◌∙◌, inl, inr, subst, arith, rules}
use Rattle.std.specs.Prelude.{◌-◌, codes, Bool, true, false, nat_eq, get_or, if◌then◌else◌}
use Rattle.fir_base.specs.declared.direction.Direction.TheVariants.{Input, Output}
use Rattle.ver_ast.specs.declared.tree.Verilog.{Verilog}
use Rattle.ver_ast.specs.declared.tree.Port.{Port}
use Rattle.ver_ast.specs.declared.tree.Resetting.{Resetting}
use Rattle.ver_ast.specs.declared.tree.Item.{Item}
use Rattle.ver_ast.specs.declared.tree.Item.TheVariants as item
use Rattle.ver_ast.specs.declared.tree.Rhs.TheVariants as rhs
use Rattle.ver_ast.specs.Atoms.{AtomTree, bit_select, part_select}
use Rattle.ver_ast.specs.Atoms as atom
use Rattle.ver_ast.specs.Tokens.{VToken, word, digit_zero, number, constant, sign, question_digit, hexadecimal}
use Rattle.ver_ast.specs.Pieces.{PlacedToken, blank, line_comment, spelled, questioned, HasTokens}
use Rattle.ver_ast.specs.Grammar.{port_tokens, atom_tokens, item_tokens}
use Rattle.ver_ast.specs.Spells.{AreAlike}
use Rattle.ver_ast.specs.Nets.{resetting_block}
use Rattle.ver_ast.specs.Valid.{Valid}
use Rattle.ver_ast.specs.working.TokenSteps.{tokens, tokens_from}
use Rattle.ver_ast.proofs.Alike.{AlikeEach, alike_with_places, alike_without_places}
use Rattle.ver_ast.proofs.OneAtom.{front}
use Rattle.ver_ast.proofs.TokenPieces.{plain_of, word_piece, lone_piece, no_comment}
use Rattle.ver_ast.proofs.TokensFound.{tokens_found}
use Rattle.ver_ast.proofs.TokensTaken.{spelled_tokens}

-- ---- spelled

-- tokens of the grammar, and a text that spells them
record Spells (gs : List VToken) (bytes : List ℕ) : Type 0 where
  placed : List PlacedToken
  of_text : HasTokens bytes placed
  alike : AreAlike gs placed

abbrev AlikeRead : List VToken → Option (List VToken) → Type 0
AlikeRead gs None = ⊥
AlikeRead gs (Some ts) = AlikeEach gs ts

spells : (gs : List VToken) (bytes : List ℕ) → AlikeRead gs (tokens bytes) → Spells gs bytes
spells gs bytes h = by (tokens bytes) refl h
  where
    by : (o : Option (List VToken)) → tokens bytes ≡ o → AlikeRead gs o → Spells gs bytes
    by None e k = absurd k
    by (Some ts) e k =
        let found = tokens_found bytes ts e in
        record { placed = found.0; of_text = found.1; alike = alike_with_places gs found.0 (subst (AlikeEach gs) (sym found.2) k) }

read : (gs : List VToken) (bytes : List ℕ) (ts : List VToken) → tokens bytes ≡ Some ts → Spells gs bytes → AlikeEach gs ts
read gs bytes ts e h =
    let same : plain_of h.placed ≡ ts = let k = sym (spelled_tokens bytes h.placed h.of_text) ∙ e in cc in
    subst (AlikeEach gs) same (alike_without_places gs h.placed h.alike)

abbrev wire : ℕ → Item
wire width = item.Wire (record { width = width; name = codes "a" })

range_of_no_bit : Spells (item_tokens (wire 0)) (codes "wire [0:0] a;")
unfolding tokens_from
range_of_no_bit = spells _ _ (search rules)

range_with_zeros_in_front : Spells (item_tokens (wire 4)) (codes "wire [003:0] a;")
unfolding tokens_from
range_with_zeros_in_front = spells _ _ (search rules)

-- a range ends in the one digit
no_range_with_two_zeros : (i : Item) → Spells (item_tokens i) (codes "wire [3:00] a;") → ⊥
unfolding tokens_from
no_range_with_two_zeros i h = by_form i (read _ _ two_zeros refl h)
  where
    two_zeros : List VToken
    two_zeros = word (codes "wire") ∷ sign 91 ∷ number 3 ∷ sign 58 ∷ number 0 ∷ sign 93 ∷ word (codes "a") ∷ sign 59 ∷ []

    by_width : (one : Bool) (width : ℕ) (n : List ℕ)
        → AlikeEach ((if one then [] else (sign 91 ∷ number (width - 1) ∷ sign 58 ∷ digit_zero ∷ sign 93 ∷ [])) ++ word n ∷ sign 59 ∷ [])
        (sign 91 ∷ number 3 ∷ sign 58 ∷ number 0 ∷ sign 93 ∷ word (codes "a") ∷ sign 59 ∷ []) → ⊥
    by_width true width n k = let no = k.0 in cc
    by_width false width n k = let no = k.1.1.1.0 in cc

    by_form : (i : Item) → AlikeEach (item_tokens i) two_zeros → ⊥
    by_form (item.Wire n) k = by_width (nat_eq n.width 1) n.width n.name k.1
    by_form (item.Reg n) k = omega (arith, ap (λ (t : VToken). front (t ∷ [])) k.0)
    by_form (item.Array a) k = omega (arith, ap (λ (t : VToken). front (t ∷ [])) k.0)
    by_form (item.Assign a) k = omega (arith, ap (λ (t : VToken). front (t ∷ [])) k.0)
    by_form (item.Always b) k = omega (arith, ap (λ (t : VToken). front (t ∷ [])) k.0)
    by_form (item.Resetting b) k = omega (arith, ap (λ (t : VToken). front (t ∷ [])) k.0)
    by_form (item.Writing b) k = omega (arith, ap (λ (t : VToken). front (t ∷ [])) k.0)

select_of_two_zeros : Spells (atom_tokens (bit_select (codes "a") 0)) (codes "a[00]")
unfolding tokens_from
select_of_two_zeros = spells _ _ (search rules)

-- a number past every limit counts as the last one
select_far_out : Spells (atom_tokens (bit_select (codes "a") 4294967294)) (codes "a[99999999999]")
unfolding tokens_from
select_far_out = spells _ _ (search rules)

turned_select : Spells (atom_tokens (part_select (codes "a") 1 3)) (codes "a[1:3]")
unfolding tokens_from
turned_select = spells _ _ (search rules)

constant_past_its_size : Spells (atom_tokens (atom.constant 2 7)) (codes "2'h7")
unfolding tokens_from
constant_past_its_size = spells _ _ (search rules)

abbrev clock_of : ℕ → Port
clock_of width = record { is_clock = true; direction = Input; width = width; name = codes "c" }

clock_with_a_range : Spells (port_tokens (clock_of 4)) (codes "(* clock *) input [3:0] c")
unfolding tokens_from
clock_with_a_range = spells _ _ (search rules)

abbrev block : List ℕ → Option ℕ → Resetting
block tested value = record { reset = codes "n"; tested = tested; target = codes "r"; value = record { width = 4; number = value }; edge = None }

two_resets : Spells (item_tokens (item.Resetting (block (codes "m") (Some 9)))) (codes "always @(posedge n) if (m) r <= 4'h9;")
unfolding tokens_from
two_resets = spells _ _ (search rules)

number_in_no_type : Spells (item_tokens (item.Resetting (block (codes "n") None))) (codes "always @(posedge n) if (n) r <= 4'hfffffffffffffffffffffffffffffffff;")
unfolding tokens_from
number_in_no_type = spells _ _ (search rules)

-- ---- not valid

abbrev tree : List Port → List Item → Verilog
tree ports items = record { name = codes "T"; ports = ports; items = items; places = [] }

abbrev bits : ℕ → List ℕ → Port
bits width n = record { is_clock = false; direction = Output; width = width; name = n }

abbrev showing : AtomTree → Verilog
showing a = tree (bits 4 (codes "a") ∷ bits 2 (codes "q") ∷ []) (item.Assign (record { target = codes "q"; rhs = rhs.Atom a }) ∷ [])

constant_past_its_size_is_not_valid : Valid (showing (atom.constant 2 7)) → ⊥
constant_past_its_size_is_not_valid h = let side = h.sound_assigns _ (inl refl) in omega (arith, side.2.operands.0.sound.2)

turned_select_is_not_valid : Valid (showing (part_select (codes "a") 1 3)) → ⊥
turned_select_is_not_valid h = let side = h.sound_assigns _ (inl refl) in omega (arith, side.2.operands.0.sound.1)

no_bit_is_not_valid : Valid (tree [] (wire 0 ∷ [])) → ⊥
no_bit_is_not_valid h = omega (arith, (h.narrow _ _ (inl refl)).0)

clock_with_a_range_is_not_valid : Valid (tree (clock_of 4 ∷ []) []) → ⊥
clock_with_a_range_is_not_valid h = omega (arith, h.plain_clocks _ (inl refl) refl)

two_resets_are_not_valid : Valid (tree [] (item.Resetting (block (codes "m") (Some 9)) ∷ [])) → ⊥
two_resets_are_not_valid h = omega (arith, ap (λ (s : List ℕ). get_or s 0 0) (h.sound_blocks (resetting_block (block (codes "m") (Some 9))) (inl refl)).one_reset)

-- ---- places

abbrev at : ℕ → ℕ → VToken → PlacedToken
at line col t = record { token = t; place = record { line = line; col = col } }

placed : HasTokens (codes "ab\n  [ // x\n1'h0?") (at 1 1 (word (codes "ab")) ∷ at 2 3 (sign 91) ∷ at 3 1 (constant 1 0) ∷ at 3 5 question_digit ∷ [])
placed = record {
  pieces =
      spelled (word (codes "ab")) (codes "ab") ∷ blank 10 ∷ blank 32 ∷ blank 32 ∷ spelled (sign 91) (codes "[") ∷ blank 32 ∷ line_comment (codes " x") ∷ blank 10
      ∷ questioned 1 0 (codes "1'h0") ∷ [];
  bytes_are = refl;
  each = (
    word_piece (codes "ab") _ refl refl,
    (
      inr (inr (inr (inl refl))),
      (
        inl refl,
        (
          inl refl,
          (
            lone_piece 91 _ (inr (inr (inr (inr (inr (inl refl)))))) refl (no_comment 91 _ (λ e. omega (arith, e))),
            (
              inl refl,
              (
                (((λ e. omega (arith, e)), ((λ e. omega (arith, e)), tt)), inr (codes "1'h0?", refl)),
                (
                  inr (inr (inr (inl refl))),
                  (
                    record {
                      size = codes "1";
                      base = hexadecimal;
                      digits = codes "0";
                      numbers = 0 ∷ [];
                      bytes = refl;
                      is_size = ((λ e. cc), (refl, tt));
                      width_is = refl;
                      some = (λ e. cc);
                      are_digits = refl;
                      below = (omega arith, tt);
                      value_is = refl;
                    },
                    tt,
                  ),
                ),
              ),
            ),
          ),
        ),
      ),
    ),
  );
  tokens_are = refl;
}
