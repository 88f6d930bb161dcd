-- Terms all of whose parts read leaves of a module, through indices either of ports alone or of none: also what the indices read before a leaf that is not there.
use Rattle.std.proofs.Common.{Option, Some, None}
use Rattle.fir_meaning.specs.working.LeafModules as over
use Rattle.fir_meaning.specs.working.LeafModules.{LeafModule, LeafReset, Role}
use Rattle.fir_meaning.specs.working.Terms.{Term, zeros, absent, literal, read, operation, mux, validif, Picks, no_picks, pick, Terms, no_terms, term}
use Rattle.fir_leaf.specs.working.SoundDesigns.{IsRead}

module _ (m : LeafModule) where
  abbrev mutual
    pub AllTermIn : Term → Type 0
    AllTermIn zeros = Unit {0}
    AllTermIn (absent t ps) = AllPicksIn ps
    AllTermIn (literal l) = Unit {0}
    AllTermIn (read b ps) = IsRead m b ps × AllPicksIn ps
    AllTermIn (operation op ts ks) = AllTermsIn ts
    AllTermIn (mux c a b) = AllTermIn c × AllTermIn a × AllTermIn b
    AllTermIn (validif c a) = AllTermIn c × AllTermIn a

    pub AllPicksIn : Picks → Type 0
    AllPicksIn no_picks = Unit {0}
    AllPicksIn (pick ps p i n each) = AllPicksIn ps × AllTermIn i

    pub AllTermsIn : Terms → Type 0
    AllTermsIn no_terms = Unit {0}
    AllTermsIn (term t ts) = AllTermIn t × AllTermsIn ts

-- those of a role
pub record ResetReads (m : LeafModule) (r : LeafReset) : Type 0 where
  pub condition : AllTermIn m r.condition
  pub init : AllTermIn m r.init

abbrev pub MayResetReads : LeafModule → Option LeafReset → Type 0
MayResetReads m None = Unit {0}
MayResetReads m (Some r) = ResetReads m r

abbrev pub RoleReads : LeafModule → Role → Type 0
RoleReads m (over.computed t) = AllTermIn m t
RoleReads m (over.register k r) = AllTermIn m k × MayResetReads m r
RoleReads m _ = Unit {0}
