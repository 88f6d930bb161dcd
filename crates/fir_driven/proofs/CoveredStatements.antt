-- The leaf that a statement of the code covers alone.
use Rattle.std.proofs.Common.{◌≡◌, ℕ, List, [], ◌∷◌, ◌++◌, Bool, true, false, not, ◌&&◌, ◌||◌, refl, sym, nat_eq, arith}
use Rattle.std.proofs.lemmas.Bool.{and_right}
use Rattle.fir_meaning.specs.working.TermReads.{is_among, is_picked, reached}
use Rattle.fir_meaning.specs.working.Terms.{Picks, no_picks, pick}
use Rattle.fir_leaf.specs.declared.node.Node.{Node}
use Rattle.fir_leaf.specs.declared.statement.Drive.{Drive}
use Rattle.fir_leaf.specs.declared.statement.LeafStmt.TheVariants as code
use Rattle.fir_leaf.specs.working.Nodes.{entries, picks_at}
use Rattle.fir_leaf.specs.working.NodeBlocks.{statement_in}
use Rattle.fir_driven.specs.working.Covering.{flag_at}
use Rattle.fir_driven.specs.working.CoverWalks.{Covers, IsReady, is_covered}
use Rattle.fir_driven.specs.declared.covered.Covering.{Covering}
use Rattle.fir_driven.proofs.AmongLeaves.{among_push, or_false}
use Rattle.fir_driven.proofs.LeafViews.{drive_view}

-- indices can miss each leaf
picked_covers : (ps : Picks) (b x : ℕ) → is_picked ps ≡ true → (is_among (reached b ps) x && not (is_picked ps)) ≡ false
picked_covers ps b x h = rw h (and_right (is_among (reached b ps) x) false refl)

pub passed_by : (nodes : List Node) (d : Drive) (before : List ℕ) (depths : List ℕ) (k x : ℕ) → true ≡ is_picked (picks_at (entries nodes) d.picks)
    → is_among before x ≡ (is_among before x || is_covered depths (statement_in nodes (code.Drive d)) k x)
passed_by nodes d before depths k x picked =
    let ps = picks_at (entries nodes) d.picks in
    rw (drive_view nodes d, picked_covers ps d.leaf x (sym picked)) (sym (or_false (is_among before x)))

-- without any the one leaf is driven
unpicked_covers : (ps : Picks) (b x : ℕ) → is_picked ps ≡ false → (is_among (reached b ps) x && not (is_picked ps)) ≡ nat_eq b x
unpicked_covers no_picks b x h = grind arith
unpicked_covers (pick ps p i n each) b x h = absurd (cc)

pub listed_behind : (nodes : List Node) (d : Drive) (before after : List ℕ) (depths : List ℕ) (k x : ℕ)
    → false ≡ is_picked (picks_at (entries nodes) d.picks) → after ≡ before ++ d.leaf ∷ []
    → is_among after x ≡ (is_among before x || is_covered depths (statement_in nodes (code.Drive d)) k x)
listed_behind nodes d before after depths k x unpicked grown =
    let ps = picks_at (entries nodes) d.picks in
    rw (drive_view nodes d, unpicked_covers ps d.leaf x (sym unpicked), grown) (among_push before d.leaf x)

-- where leaves are listed alone
list_found : (flag before after covered : Bool) → after ≡ (before || covered) → (flag || after) ≡ ((flag || before) || covered)
list_found flag before after covered h = grind arith

pub covers_by_list : (depths : List ℕ) (k : ℕ) (covered : ℕ → Bool) (covering : Covering) (before after : List ℕ) → IsReady depths covering
    → ((x : ℕ) → is_among after x ≡ (is_among before x || covered x)) → Covers depths k covered covering covering before after
covers_by_list depths k covered covering before after ready h = record {
  ready = ready;
  outer = λ x within out. refl;
  listed = λ x within out. h x;
  found = λ x within. list_found (flag_at covering.covered.items x) (is_among before x) (is_among after x) (covered x) (h x);
}
