use Rattle.book.specs.Rows.{empty}
use Rattle.book.specs.Views.{rights}
use Rattle.book.proofs.Kept.{kept-room}
use Rattle.book.proofs.Smalls.{small_at}
use Rattle.book.proofs.rights.Rights.keep_in_force.Goals as goal

pub push-requires : goal.push-requires
push-requires c =
    let me = c.args.self.now in
    let rs = c.as_slice-rights.result.now in
    record {
      room = kept-room rs (rights c.loop-right.staying) c.loop-right.right-index c.loop-right-test.true c.loop-right.invariant c.as_slice-rights.ensures.few;
      small = small_at rs c.loop-right.right-index empty c.loop-right-test.true c.as_slice-rights.ensures.small;
    }
