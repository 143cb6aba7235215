use Rattle.std.proofs.Common.{◌≡◌, length, refl, length-set, rules}
use Rattle.pages.proofs.Holders.{first_in, size_in}
use Rattle.pages.proofs.Shifts.{moved, kept}
use Rattle.pages.proofs.stock.Stock.shift.Goals as goal

pub offset_bounds-self-p : goal.offset_bounds-self-p
offset_bounds-self-p c = let l = first_in c.args.self.now c.args.a c.requires.a_in c.requires.some in search rules

pub bounds-self-p : goal.bounds-self-p
bounds-self-p c = first_in c.args.self.now c.args.a c.requires.a_in c.requires.some

pub offset_bounds-self-p-2 : goal.offset_bounds-self-p-2
offset_bounds-self-p-2 c = let l = first_in c.args.self.now c.args.a c.requires.a_in c.requires.some in search rules

pub bounds-self-p-2 : goal.bounds-self-p-2
bounds-self-p-2 c = first_in c.args.self.now c.args.a c.requires.a_in c.requires.some

pub overflow_add-self : goal.overflow_add-self
overflow_add-self c = let l = size_in c.args.self.now c.args.b c.requires.b_in in search rules

pub invariant_of-self : goal.invariant_of-self
invariant_of-self c =
    let s = c.args.self.now in
    let long : length c.args.block ≡ 16 = search rules in
    let k = kept s c.args.a c.args.b c.args.block c.requires.a_in c.requires.b_in c.requires.apart c.requires.some long c.requires.room in
    record {
      lengths = (simp length-set s.lengths.0, simp length-set s.lengths.1, s.lengths.2);
      whole = k.0;
      once = k.1;
      counted = k.2;
      small = k.3;
    }

pub returns : goal.returns
returns c =
    let m = moved c.args.self.now c.args.a c.args.b c.args.block c.requires.a_in c.requires.b_in c.requires.apart c.requires.some in
    record { stays = refl; from = m.0; onto = m.1; rest = m.2 }
