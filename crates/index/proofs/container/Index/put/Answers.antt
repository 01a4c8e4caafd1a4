use Rattle.std.proofs.Common.{refl, arith, length-set}
use Rattle.index.proofs.Stores.{replaced, put_new, too_short}
use Rattle.index.proofs.container.Index.put.Goals as goal

pub invariant_of-self : goal.invariant_of-self
invariant_of-self g c =
    let index = c.args.self.now in
    let s = replaced g.met.K.Key.total c.args.entry index.taken index.places.now index.rising c.in-Ok.at c.in-Ok.ensures in
    record { within = omega (arith, index.within, length-set index.places.now c.in-Ok.at c.args.entry); rising = s.1.rising }

pub returns-in-Ok : goal.returns-in-Ok
returns-in-Ok g c =
    let index = c.args.self.now in
    replaced g.met.K.Key.total c.args.entry index.taken index.places.now index.rising c.in-Ok.at c.in-Ok.ensures

pub returns-then-self : goal.returns-then-self
returns-then-self g c =
    let index = c.args.self.now in
    (too_short g.met.K.Key.total c.args.entry index.taken index.places.now index.rising c.in-Err.at (omega arith) c.in-Err.ensures, refl)

pub invariant_of-self-in-Err : goal.invariant_of-self-in-Err
invariant_of-self-in-Err g c =
    let index = c.args.self.now in
    let s = put_new g.met.K.Key.total c.args.entry index.taken index.places.now index.rising c.in-Err.at (omega (arith, index.within)) c.in-Err.ensures c.insert.new.items c.insert.ensures in
    record { within = omega (arith, index.within, c.insert.auto.items); rising = s.1.rising }

pub returns-else-self : goal.returns-else-self
returns-else-self g c =
    let index = c.args.self.now in
    put_new g.met.K.Key.total c.args.entry index.taken index.places.now index.rising c.in-Err.at (omega (arith, index.within)) c.in-Err.ensures c.insert.new.items c.insert.ensures
