use Rattle.std.proofs.Common.{◌*◌, sym, ◌∙◌, arith}
use Rattle.rules.specs.Tests.{picks}
use Rattle.ground.specs.Listed.{open_at, lower_at}
use Rattle.ground.proofs.Asked.{lawful, skin_listed, lower_listed}
use Rattle.ground.proofs.Grounds.{many}
use Rattle.ground.proofs.stage.Sealed.counts.Goals as goal

pub returns : goal.returns
returns c =
    let g = c.args.self.now.cells in
    let t = c.args.self.now.tallied in
    let s = g.standing in
    record {
      counted = record {
        cells = t.cells ∙ sym (many g);
        joined = (picks (lower_at g.records.now) (4 * g.count), lower_listed g.records.now g.count s.room s.law, t.joined);
        skin = (picks (open_at g.records.now) (4 * g.count), skin_listed g.records.now g.count s.room s.law, t.skin);
      };
      lawful = lawful g.records.now g.count s;
      few = omega (arith, t.cells, s.room, g.few);
    }
