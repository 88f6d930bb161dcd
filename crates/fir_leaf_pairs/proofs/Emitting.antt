-- Statements over leaves, one after another.
use Rattle.std.proofs.Common.{◌≡◌, List, [], ◌∷◌, ◌++◌, map, refl, sym, ap, ◌∙◌, append_assoc, append-nil}
use Rattle.std.proofs.lemmas.List.{map-append}
use Rattle.fir_leaf.specs.declared.node.Node.{Node}
use Rattle.fir_leaf.specs.declared.statement.Drive.{Drive}
use Rattle.fir_leaf.specs.declared.statement.LeafInstance.{LeafInstance}
use Rattle.fir_leaf.specs.declared.statement.LeafWhen.{LeafWhen, fold_out-LeafWhen}
use Rattle.fir_leaf.specs.declared.statement.LeafStmt.{LeafStmt, fold-roll-LeafStmt}
use Rattle.fir_leaf.specs.declared.statement.LeafStmt.TheOpen.{LeafStmt-F}
use Rattle.fir_leaf.specs.declared.statement.LeafStmt.TheVariants as code
use Rattle.fir_meaning.specs.working.LeafBlocks.{LeafStatement, LeafBlock, drive, when, instance, done, then, joined}
use Rattle.fir_leaf.specs.working.Nodes.{Grows, entries, node_term, picks_at}
use Rattle.fir_leaf.specs.working.NodeBlocks.{block_of, block_in, statement_in, statement_step, when_step, Emitted}
use Rattle.fir_leaf_pairs.proofs.Entries.{grows_on}

pub drive_is : (nodes : List Node) (d : Drive) → statement_in nodes (code.Drive d) ≡ drive d.place d.leaf (picks_at (entries nodes) d.picks)
    (node_term nodes d.given)
drive_is nodes d =
    ap (statement_in nodes) (sym (code.rolls-Drive d))
    ∙ fold-roll-LeafStmt LeafStatement LeafStatement (statement_step (entries nodes)) (when_step (entries nodes)) (LeafStmt-F.Drive d)

pub instance_is : (nodes : List Node) (i : LeafInstance)
    → statement_in nodes (code.Instance i) ≡ instance (record { declaration = i.declaration; module_number = i.module_number; first = i.first })
instance_is nodes i =
    ap (statement_in nodes) (sym (code.rolls-Instance i))
    ∙ fold-roll-LeafStmt LeafStatement LeafStatement (statement_step (entries nodes)) (when_step (entries nodes)) (LeafStmt-F.Instance i)

pub joined_assoc : (a b c : LeafBlock) → joined (joined a b) c ≡ joined a (joined b c)
joined_assoc done b c = refl
joined_assoc ((then) s a) b c = ap (λ z. (then) s z) (joined_assoc a b c)

pub joined_done : (a : LeafBlock) → joined a done ≡ a
joined_done done = refl
joined_done ((then) s a) = ap (λ z. (then) s z) (joined_done a)

block_append : (xs ys : List LeafStatement) → block_of (xs ++ ys) ≡ joined (block_of xs) (block_of ys)
block_append [] ys = refl
block_append (x ∷ xs) ys = ap (λ b. (then) x b) (block_append xs ys)

pub emitted_none : (nodes : List Node) (before : List LeafStmt) → Emitted nodes before before done
emitted_none nodes before = record { added = []; is = sym (append-nil before); block = λ later g. refl }

pub emitted_then : (nodes : List Node) (a b c : List LeafStmt) (x y : LeafBlock) → Emitted nodes a b x → Emitted nodes b c y → Emitted nodes a c (joined x y)
emitted_then nodes a b c x y h k = record {
  added = h.added ++ k.added;
  is = k.is ∙ ap (λ l. l ++ k.added) h.is ∙ append_assoc a h.added k.added;
  block = λ later g.
      ap block_of (map-append (statement_in later) h.added k.added)
      ∙ block_append (map (statement_in later) h.added) (map (statement_in later) k.added)
      ∙ ap (λ z. joined z (block_in later k.added)) (h.block later g) ∙ ap (λ z. joined x z) (k.block later g);
}

pub emitted_as : (nodes : List Node) (a b : List LeafStmt) (x y : LeafBlock) → x ≡ y → Emitted nodes a b x → Emitted nodes a b y
emitted_as nodes a b x y e h = record { added = h.added; is = h.is; block = λ later g. h.block later g ∙ e }

pub emitted_later : (nodes later : List Node) (a b : List LeafStmt) (x : LeafBlock) → Grows nodes later → Emitted nodes a b x → Emitted later a b x
emitted_later nodes later a b x g e = record { added = e.added; is = e.is; block = λ more h. e.block more (grows_on nodes later more g h) }

-- one statement
pub emitted_one : (nodes : List Node) (before after : List LeafStmt) (s : LeafStmt) (x : LeafStatement) → after ≡ before ++ s ∷ []
    → ((later : List Node) → Grows nodes later → statement_in later s ≡ x) → Emitted nodes before after ((then) x done)
emitted_one nodes before after s x grown is = record { added = s ∷ []; is = grown; block = λ later g. ap (λ y. (then) y done) (is later g) }

-- all that was emitted into an empty list
pub emitted_whole : (nodes later : List Node) (a b : List LeafStmt) (x : LeafBlock) → a ≡ [] → Grows nodes later → Emitted nodes a b x → block_in later b ≡ x
emitted_whole nodes later a b x none g e = ap (block_in later) (e.is ∙ ap (λ l. l ++ e.added) none) ∙ e.block later g

pub when_is : (nodes : List Node) (w : LeafWhen)
    → statement_in nodes (code.When w) ≡ when w.place (node_term nodes w.condition) (block_in nodes w.then_block.items) (block_in nodes w.else_block.items)
when_is nodes w =
    ap (statement_in nodes) (sym (code.rolls-When w))
    ∙ fold-roll-LeafStmt LeafStatement LeafStatement (statement_step (entries nodes)) (when_step (entries nodes)) (LeafStmt-F.When w)
    ∙ fold_out-LeafWhen LeafStatement LeafStatement (statement_step (entries nodes)) (when_step (entries nodes)) w
