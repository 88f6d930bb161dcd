-- A tree with every form of the subset, and its text as it is written, worked out by hand (IEEE 1364-2005, Annex A). Other tools read the text too: it is
-- that of checks/verilog/forms.v.
use Rattle.std.proofs.Common.{◌≡◌, ℕ, List, [], ◌∷◌, ◌++◌, Bool, true, false, Some, None, refl}
use Rattle.std.specs.Prelude.{codes}
use Rattle.std.specs.Fmt.{digits}
use Rattle.fir_base.specs.declared.direction.Direction.{Direction}
use Rattle.fir_base.specs.declared.direction.Direction.TheVariants.{Input, Output}
use Rattle.ver_ast.specs.declared.tree.Verilog.{Verilog}
use Rattle.ver_ast.specs.declared.tree.Port.{Port}
use Rattle.ver_ast.specs.declared.tree.Net.{Net}
use Rattle.ver_ast.specs.declared.tree.Item.{Item}
use Rattle.ver_ast.specs.declared.tree.Item.TheVariants as item
use Rattle.ver_ast.specs.declared.tree.Rhs.{Rhs}
use Rattle.ver_ast.specs.declared.tree.Rhs.TheVariants as rhs
use Rattle.ver_ast.specs.declared.tree.UnaryOp.TheVariants as unary
use Rattle.ver_ast.specs.declared.tree.BinaryOp.TheVariants as binary
use Rattle.ver_ast.specs.declared.tree.SignedOp.TheVariants as signed
use Rattle.ver_ast.specs.Atoms.{AtomTree, net, constant, bit_select, part_select, concat, repeat, no_atoms, atom_before}
use Rattle.ver_emit.specs.Layout.{layout}

port : Bool → Direction → ℕ → List ℕ → Port
port is_clock direction width name = record { is_clock = is_clock; direction = direction; width = width; name = name }

sized : ℕ → List ℕ → Net
sized width name = record { width = width; name = name }

assign : List ℕ → Rhs → Item
assign target rhs = item.Assign (record { target = target; rhs = rhs })

forms : Verilog
forms = record {
  name = codes "Forms";
  ports =
      port true Input 1 (codes "clock") ∷
      port false Input 1 (codes "rst") ∷
      port false Input 1 (codes "c") ∷
      port false Input 4 (codes "a") ∷
      port false Input 4 (codes "b") ∷
      port true Output 1 (codes "copied") ∷
      port true Output 1 (codes "silent") ∷
      port false Output 4 (codes "shown") ∷
      port false Output 1 (codes "less") ∷ [];
  items =
      item.Reg (sized 4 (codes "r")) ∷
      item.Reg (sized 4 (codes "s")) ∷
      item.Reg (sized 4 (codes "t")) ∷
      item.Array (record { width = 4; last = 15; name = codes "m" }) ∷
      item.Wire (sized 4 (codes "_n0")) ∷
      item.Wire (sized 1 (codes "_n1")) ∷
      item.Wire (sized 1 (codes "_n2")) ∷
      item.Wire (sized 1 (codes "_n3")) ∷
      item.Wire (sized 4 (codes "_n4")) ∷
      item.Wire (sized 4 (codes "_n5")) ∷
      item.Wire (sized 4 (codes "_n6")) ∷
      item.Wire (sized 4 (codes "_n7")) ∷
      item.Wire (sized 4 (codes "_n8")) ∷
      item.Wire (sized 4 (codes "_n9")) ∷
      item.Wire (sized 4 (codes "_n10")) ∷
      item.Wire (sized 4 (codes "_n11")) ∷
      item.Wire (sized 4 (codes "_n12")) ∷
      item.Wire (sized 4 (codes "_n13")) ∷
      item.Wire (sized 1 (codes "_n14")) ∷
      item.Wire (sized 1 (codes "_n15")) ∷
      item.Wire (sized 1 (codes "_n16")) ∷
      item.Wire (sized 1 (codes "_n17")) ∷
      item.Wire (sized 1 (codes "_n18")) ∷
      item.Wire (sized 1 (codes "_n19")) ∷
      item.Wire (sized 4 (codes "_n20")) ∷
      item.Wire (sized 4 (codes "_n21")) ∷
      item.Wire (sized 1 (codes "_n22")) ∷
      item.Wire (sized 1 (codes "_n23")) ∷
      item.Wire (sized 1 (codes "_n24")) ∷
      item.Wire (sized 1 (codes "_n25")) ∷
      item.Wire (sized 4 (codes "_n26")) ∷
      item.Wire (sized 4 (codes "_n27")) ∷
      item.Wire (sized 4 (codes "_n28")) ∷
      item.Wire (sized 4 (codes "_n29")) ∷
      item.Wire (sized 1 (codes "_n30")) ∷
      item.Wire (sized 8 (codes "_n31")) ∷
      item.Wire (sized 8 (codes "_n32")) ∷
      assign (codes "_n0") (rhs.Unary unary.Not (net (codes "a"))) ∷
      assign (codes "_n1") (rhs.Unary unary.And (net (codes "a"))) ∷
      assign (codes "_n2") (rhs.Unary unary.Or (net (codes "a"))) ∷
      assign (codes "_n3") (rhs.Unary unary.Xor (net (codes "a"))) ∷
      assign (codes "_n4") (rhs.Binary (net (codes "a")) binary.Add (net (codes "b"))) ∷
      assign (codes "_n5") (rhs.Binary (net (codes "a")) binary.Sub (net (codes "b"))) ∷
      assign (codes "_n6") (rhs.Binary (net (codes "a")) binary.Mul (net (codes "b"))) ∷
      assign (codes "_n7") (rhs.Binary (net (codes "a")) binary.Div (net (codes "b"))) ∷
      assign (codes "_n8") (rhs.Binary (net (codes "a")) binary.Rem (net (codes "b"))) ∷
      assign (codes "_n9") (rhs.Binary (net (codes "a")) binary.And (net (codes "b"))) ∷
      assign (codes "_n10") (rhs.Binary (net (codes "a")) binary.Or (net (codes "b"))) ∷
      assign (codes "_n11") (rhs.Binary (net (codes "a")) binary.Xor (net (codes "b"))) ∷
      assign (codes "_n12") (rhs.Binary (net (codes "a")) binary.Shl (net (codes "b"))) ∷
      assign (codes "_n13") (rhs.Binary (net (codes "a")) binary.Shr (net (codes "b"))) ∷
      assign (codes "_n14") (rhs.Binary (net (codes "a")) binary.Eq (net (codes "b"))) ∷
      assign (codes "_n15") (rhs.Binary (net (codes "a")) binary.Neq (net (codes "b"))) ∷
      assign (codes "_n16") (rhs.Binary (net (codes "a")) binary.Lt (net (codes "b"))) ∷
      assign (codes "_n17") (rhs.Binary (net (codes "a")) binary.Leq (net (codes "b"))) ∷
      assign (codes "_n18") (rhs.Binary (net (codes "a")) binary.Gt (net (codes "b"))) ∷
      assign (codes "_n19") (rhs.Binary (net (codes "a")) binary.Geq (net (codes "b"))) ∷
      assign (codes "_n20") (rhs.Signed (net (codes "a")) signed.Div (net (codes "b"))) ∷
      assign (codes "_n21") (rhs.Signed (net (codes "a")) signed.Rem (net (codes "b"))) ∷
      assign (codes "_n22") (rhs.Signed (net (codes "a")) signed.Lt (net (codes "b"))) ∷
      assign (codes "_n23") (rhs.Signed (net (codes "a")) signed.Leq (net (codes "b"))) ∷
      assign (codes "_n24") (rhs.Signed (net (codes "a")) signed.Gt (net (codes "b"))) ∷
      assign (codes "_n25") (rhs.Signed (net (codes "a")) signed.Geq (net (codes "b"))) ∷
      assign (codes "_n26") (rhs.SignedShift (net (codes "a")) (net (codes "b"))) ∷
      assign (codes "_n27") (rhs.Conditional (net (codes "c")) (net (codes "a")) (net (codes "b"))) ∷
      assign (codes "_n28") (rhs.Word (codes "m") (net (codes "a"))) ∷
      assign (codes "_n29") (rhs.Atom (constant 4 9)) ∷
      assign (codes "_n30") (rhs.Atom (bit_select (codes "a") 3)) ∷
      assign (codes "_n31") (rhs.Atom (concat (part_select (codes "a") 2 0) (atom_before (constant 1 0) (atom_before (net (codes "b")) no_atoms)))) ∷
      assign (codes "_n32") (rhs.Atom (concat (repeat 4 (bit_select (codes "a") 3)) (atom_before (net (codes "a")) no_atoms))) ∷
      assign (codes "copied") (rhs.Atom (net (codes "clock"))) ∷
      assign (codes "silent") (rhs.Atom (constant 1 0)) ∷
      assign (codes "shown") (rhs.Atom (net (codes "_n28"))) ∷
      assign (codes "less") (rhs.Atom (net (codes "_n22"))) ∷
      item.Always (record { clock = codes "clock"; target = codes "r"; source = net (codes "_n4") }) ∷
      item.Resetting (record {
        reset = codes "rst";
        tested = codes "rst";
        target = codes "s";
        value = record { width = 4; number = Some 9 };
        edge = Some (record { clock = codes "clock"; target = codes "s"; source = net (codes "_n5") });
      }) ∷
      item.Resetting (record {
        reset = codes "rst";
        tested = codes "rst";
        target = codes "t";
        value = record { width = 4; number = Some 6 };
        edge = None;
      }) ∷
      item.Writing (record {
        clock = codes "clock";
        writes =
            record { condition = net (codes "_n1"); array = codes "m"; index = net (codes "a"); source = net (codes "b") }
            ∷ record {
              condition = net (codes "c");
              array = codes "m";
              index = constant 4 15;
              source = concat (part_select (codes "_n31") 7 6) (atom_before (part_select (codes "r") 1 0) no_atoms);
            } ∷ [];
      }) ∷ [];
  places = [];
}

forms_text : List ℕ
forms_text =
    codes "module Forms(\n" ++
    codes "  (* clock *) input clock,\n" ++
    codes "  input rst,\n" ++
    codes "  input c,\n" ++
    codes "  input [3:0] a,\n" ++
    codes "  input [3:0] b,\n" ++
    codes "  (* clock *) output copied,\n" ++
    codes "  (* clock *) output silent,\n" ++
    codes "  output [3:0] shown,\n" ++
    codes "  output less\n" ++
    codes ");\n" ++
    codes "  reg [3:0] r;\n" ++
    codes "  reg [3:0] s;\n" ++
    codes "  reg [3:0] t;\n" ++
    codes "  reg [3:0] m [0:15];\n" ++
    codes "  wire [3:0] _n0;\n" ++
    codes "  wire _n1;\n" ++
    codes "  wire _n2;\n" ++
    codes "  wire _n3;\n" ++
    codes "  wire [3:0] _n4;\n" ++
    codes "  wire [3:0] _n5;\n" ++
    codes "  wire [3:0] _n6;\n" ++
    codes "  wire [3:0] _n7;\n" ++
    codes "  wire [3:0] _n8;\n" ++
    codes "  wire [3:0] _n9;\n" ++
    codes "  wire [3:0] _n10;\n" ++
    codes "  wire [3:0] _n11;\n" ++
    codes "  wire [3:0] _n12;\n" ++
    codes "  wire [3:0] _n13;\n" ++
    codes "  wire _n14;\n" ++
    codes "  wire _n15;\n" ++
    codes "  wire _n16;\n" ++
    codes "  wire _n17;\n" ++
    codes "  wire _n18;\n" ++
    codes "  wire _n19;\n" ++
    codes "  wire [3:0] _n20;\n" ++
    codes "  wire [3:0] _n21;\n" ++
    codes "  wire _n22;\n" ++
    codes "  wire _n23;\n" ++
    codes "  wire _n24;\n" ++
    codes "  wire _n25;\n" ++
    codes "  wire [3:0] _n26;\n" ++
    codes "  wire [3:0] _n27;\n" ++
    codes "  wire [3:0] _n28;\n" ++
    codes "  wire [3:0] _n29;\n" ++
    codes "  wire _n30;\n" ++
    codes "  wire [7:0] _n31;\n" ++
    codes "  wire [7:0] _n32;\n" ++
    codes "  assign _n0 = ~a;\n" ++
    codes "  assign _n1 = &a;\n" ++
    codes "  assign _n2 = |a;\n" ++
    codes "  assign _n3 = ^a;\n" ++
    codes "  assign _n4 = a + b;\n" ++
    codes "  assign _n5 = a - b;\n" ++
    codes "  assign _n6 = a * b;\n" ++
    codes "  assign _n7 = a / b;\n" ++
    codes "  assign _n8 = a % b;\n" ++
    codes "  assign _n9 = a & b;\n" ++
    codes "  assign _n10 = a | b;\n" ++
    codes "  assign _n11 = a ^ b;\n" ++
    codes "  assign _n12 = a << b;\n" ++
    codes "  assign _n13 = a >> b;\n" ++
    codes "  assign _n14 = a == b;\n" ++
    codes "  assign _n15 = a != b;\n" ++
    codes "  assign _n16 = a < b;\n" ++
    codes "  assign _n17 = a <= b;\n" ++
    codes "  assign _n18 = a > b;\n" ++
    codes "  assign _n19 = a >= b;\n" ++
    codes "  assign _n20 = $signed(a) / $signed(b);\n" ++
    codes "  assign _n21 = $signed(a) % $signed(b);\n" ++
    codes "  assign _n22 = $signed(a) < $signed(b);\n" ++
    codes "  assign _n23 = $signed(a) <= $signed(b);\n" ++
    codes "  assign _n24 = $signed(a) > $signed(b);\n" ++
    codes "  assign _n25 = $signed(a) >= $signed(b);\n" ++
    codes "  assign _n26 = $signed(a) >>> b;\n" ++
    codes "  assign _n27 = c ? a : b;\n" ++
    codes "  assign _n28 = m[a];\n" ++
    codes "  assign _n29 = 4'h9;\n" ++
    codes "  assign _n30 = a[3];\n" ++
    codes "  assign _n31 = {a[2:0], 1'h0, b};\n" ++
    codes "  assign _n32 = {{4{a[3]}}, a};\n" ++
    codes "  assign copied = clock;\n" ++
    codes "  assign silent = 1'h0;\n" ++
    codes "  assign shown = _n28;\n" ++
    codes "  assign less = _n22;\n" ++
    codes "  always @(posedge clock) r <= _n4;\n" ++
    codes "  always @(posedge clock or posedge rst) if (rst) s <= 4'h9; else s <= _n5;\n" ++
    codes "  always @(posedge rst) if (rst) t <= 4'h6;\n" ++
    codes "  always @(posedge clock) begin if (_n1) m[a] <= b; if (c) m[4'hf] <= {_n31[7:6], r[1:0]}; end\n" ++
    codes "endmodule\n"

-- every form is written as the layout has it
written : layout forms ≡ forms_text
unfolding layout forms forms_text port sized assign digits
written = refl
