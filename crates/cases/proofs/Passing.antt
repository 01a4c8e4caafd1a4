-- The proof of the table: each case passes a test that computes, and what passes holds.
use Rattle.std.proofs.Common.{◌≡◌, Bool, true, not, ◌&&◌, eqb, List, [], ◌∷◌, length, refl}
use Rattle.std.proofs.lemmas.Bool.{and_parts, eqb-true}
use Rattle.rules.specs.Rows.{row}
use Rattle.rules.specs.PlainList.{Plain, empty}
use Rattle.rules.specs.NetTests as N
use Rattle.carry.specs.Digits.{different, composed}
use Rattle.cases.specs.Cases.{Claim, Says, Case, Holds, AllHold, none, also}
use Rattle.cases.specs.Cases.Net.{turns}
use Rattle.cases.specs.Cases.Claim.{opposed, alike, unjoined, lays, lay_refused, edge_cells, sound, unsound, labels, no_labels, orients, orient_refused, mate}
use Rattle.cases.specs.Cases.Case.{after}
use Rattle.cases.specs.Table.{cases}
use Rattle.cases.proofs.Finite.{every, some}
use Rattle.cases.proofs.Calls as C
use Rattle.cases.proofs.Calls.{layable, layable_so, refused_with, refused_so, accepts_all, last, all_accepted}
use Rattle.cases.proofs.Halves as H
use Rattle.cases.proofs.Halves.{joins, joins_so, reads_alike, reads_opposed, opens, opens_so}
use Rattle.cases.proofs.Edges as E
use Rattle.cases.proofs.Edges.{lists_edge, lists_edge_lem, links_edge, links_sound, cuts_edge, cut_unsound}
use Rattle.cases.proofs.Webs as W
use Rattle.cases.proofs.Labels as L
use Rattle.cases.proofs.Labels.{labelled, labelled_so, unlabelled, unlabelled_so, oriented, oriented_so, unoriented_so}
use Rattle.cases.proofs.Mating as M
use Rattle.cases.proofs.Mating.{mated, mated_so}

-- the test of a claim
test : Plain → Claim → Bool
test p (opposed h g) = joins p.list h g && not (N.alike p.list h g)
test p (alike h g) = joins p.list h g && N.alike p.list h g
test p (unjoined h) = opens p.list h
test p (lays a b c d n) = layable p (row a b c d) && eqb n (length p.list)
test p (lay_refused a b c d r) = refused_with p (row a b c d) r
test p (edge_cells v w ks) = lists_edge p.list v w ks
test p (sound v w) = links_edge p.list v w
test p (unsound v w cut) = cuts_edge p.list v w cut
test p (labels n ls) = labelled n p.list ls
test p (no_labels n ring) = unlabelled n p.list ring
test p (orients n xs) = oriented p.list n xs
test p (orient_refused ring) = unlabelled turns p.list ring
test p (mate h e m d) = mated p.list h e m d

-- a claim that passes is true
true_so : (p : Plain) (c : Claim) → test p c ≡ true → Says p c
unfolding test
true_so p (opposed h g) e = let a = and_parts (joins p.list h g) _ e in (joins_so p.list h g a.0, reads_opposed p.list h g a.1)
true_so p (alike h g) e = let a = and_parts (joins p.list h g) _ e in (joins_so p.list h g a.0, reads_alike p.list h g a.1)
true_so p (unjoined h) e = opens_so p.list h e
true_so p (lays a b c d n) e = let t = and_parts (layable p (row a b c d)) _ e in (layable_so p (row a b c d) t.0, (eqb-true n (length p.list) t.1, refl))
true_so p (lay_refused a b c d r) e = (refused_so p (row a b c d) r e, refl)
true_so p (edge_cells v w ks) e = lists_edge_lem p.list v w ks e
true_so p (sound v w) e = links_sound p.list v w e
true_so p (unsound v w cut) e = cut_unsound p.list v w cut e
true_so p (labels n ls) e = labelled_so n p.list ls e
true_so p (no_labels n ring) e = unlabelled_so n p.list ring e
true_so p (orients n xs) e = oriented_so p n xs e
true_so p (orient_refused ring) e = unoriented_so p ring e
true_so p (mate h e m d) t = mated_so p.list h e m d t

-- the calls are accepted, and the claim passes after them
passes : Case → Bool
passes (after cs claim) = accepts_all (empty 1024) cs && test (last (empty 1024) cs) claim

passed : (c : Case) → passes c ≡ true → Holds c
unfolding passes
passed (after cs claim) e =
    let a = and_parts (accepts_all (empty 1024) cs) _ e in
    (last (empty 1024) cs, all_accepted (empty 1024) cs a.0, true_so (last (empty 1024) cs) claim a.1)

all_pass : List Case → Bool
all_pass [] = true
all_pass (c ∷ cs) = passes c && all_pass cs

all_passed : (cs : List Case) → all_pass cs ≡ true → AllHold cs
unfolding all_pass
all_passed [] e = none
all_passed (c ∷ cs) e = let a = and_parts (passes c) (all_pass cs) e in also (passed c a.0) (all_passed cs a.1)

-- THE TABLE

table_passes : all_pass cases ≡ true
unfolding all_pass passes test cases every some N.alike N.meets N.lowest N.opposite N.holds N.corner_at N.sent N.crossing different composed
    C.within C.same_row C.same_face C.stands C.has_face C.twice C.crowded C.fine C.roomy C.fresh refused_with layable C.accepts C.next accepts_all last
    joins opens H.one_opposite H.none_crowded E.at_edge lists_edge E.stays_in cuts_edge E.leads_before E.hangs links_edge
    W.agrees_over W.agrees_all W.follows W.carries W.changes L.lawful L.step labelled L.every_label L.twists unlabelled oriented
    M.runs M.edge_at M.besides M.mates mated
table_passes = refl

pub table_holds : AllHold cases
table_holds = all_passed cases table_passes
