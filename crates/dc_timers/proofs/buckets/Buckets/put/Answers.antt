use Rattle.dc_timers.proofs.Shifts.{put-keeps}
use Rattle.dc_timers.proofs.buckets.Buckets.put.Goals as goal

pub invariant_of-self : goal.invariant_of-self
invariant_of-self c =
    put-keeps c.self.inside.room.items c.insert.new.self.items c.self.inside.starts c.move_later.new.starts c.args.t c.bucket_of-bucket.result c.bucket_of-bucket.ensures.value c.self.invariant c.move_later.ensures.size c.move_later.ensures.starts
    c.insert.ensures.items
