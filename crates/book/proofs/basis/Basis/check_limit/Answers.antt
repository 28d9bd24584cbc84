use Rattle.std.proofs.Common.{◌≡◌, ◌-ℤ◌, nat_abs, ◌≤ℤ◌, ◌<ℤ◌, Err, sym, ap, ◌∙◌, arith, w64, SFits, to_z, of_z}
use Rattle.std.proofs.lemmas.Int.{ints, to_z-of_z}
use Rattle.terms.specs.declared.refusal.Refusal.TheVariants.{LimitPassed}
use Rattle.book.specs.Market.{market_of}
use Rattle.book.specs.Views.{rights}
use Rattle.book.specs.Refusing.{told}
use Rattle.book.proofs.Sums.{limit_past, limit_kept}
use Rattle.book.proofs.basis.Basis.check_limit.Goals as goal

pub returns-then-load-bound : goal.returns-then-load-bound
returns-then-load-bound g c =
    let me = c.args.self.now in
    let m = market_of g.S.FactorSource g.R.UseRule me in
    let load = c.load_of-load.result in
    let bound = c.bound_of-bound.result in
    let fl : SFits w64 load = omega (arith, ints, c.load_of-load.ensures.near) in
    let fb : SFits w64 bound = omega (arith, ints, c.bound_of-bound.ensures.near) in
    let fd : SFits w64 (load -ℤ bound) = omega (arith, ints, c.load_of-load.ensures.near, c.bound_of-bound.ensures.near) in
    let rl = to_z-of_z w64 load fl in
    let rb = to_z-of_z w64 bound fb in
    let rd = to_z-of_z w64 (load -ℤ bound) fd in
    let past : bound <ℤ load = omega (arith, ints, rl, rb, c.if-load-bound.true) in
    let diff : to_z w64 (of_z w64 (to_z w64 (of_z w64 load) -ℤ to_z w64 (of_z w64 bound))) ≡ load -ℤ bound = simp (rl, rb) rd in
    ap (λ z. Err (LimitPassed c.args.month c.args.limit (nat_abs z))) diff
    ∙ sym (ap told (limit_past m (rights c.args.table.now) c.args.month c.args.limit load bound c.load_of-load.ensures.value c.bound_of-bound.ensures.value past))

pub returns : goal.returns
returns g c =
    let me = c.args.self.now in
    let m = market_of g.S.FactorSource g.R.UseRule me in
    let load = c.load_of-load.result in
    let bound = c.bound_of-bound.result in
    let fl : SFits w64 load = omega (arith, ints, c.load_of-load.ensures.near) in
    let fb : SFits w64 bound = omega (arith, ints, c.bound_of-bound.ensures.near) in
    let rl = to_z-of_z w64 load fl in
    let rb = to_z-of_z w64 bound fb in
    let kept : load ≤ℤ bound = omega (arith, ints, rl, rb, c.if-load-bound.false) in
    sym (ap told (limit_kept m (rights c.args.table.now) c.args.month c.args.limit load bound c.load_of-load.ensures.value c.bound_of-bound.ensures.value kept))
