use Rattle.live_master.proofs.Heads.{begin_goes_on, head_begun, head_few, head_last, head_more, head_none}
use Rattle.live_master.proofs.Heads.{head_starts_few, setting_goes_on}
use Rattle.live_master.proofs.serving.read_head.Goals as goal

pub loop-init : goal.loop-init
loop-init g c = record {
  consumed = head_none _ _ c.requires;
  few = head_starts_few _ c.requires;
}

pub loop-preserved : goal.loop-preserved
loop-preserved g c =
    let takes = c.in_ok-read_head_line.ensures.ok in
    record {
      consumed = head_more _ _ _ _ _ _ takes (setting_goes_on _ c.in-Setting.is) c.loop.invariant.consumed;
      few = head_few _ _ _ _ _ takes;
    }

pub returns-in-Begin-clause-ok : goal.returns-in-Begin-clause-ok
returns-in-Begin-clause-ok g c =
    head_begun _ _ _ _ _ _ c.in_ok-read_head_line.ensures.ok _ (begin_goes_on _ c.in-Begin.is)
    c.loop.invariant.consumed c.in_ok-extend_from_slice-in-Begin.ensures.items

pub returns-in-Last-clause-ok : goal.returns-in-Last-clause-ok
returns-in-Last-clause-ok g c =
    head_last _ _ _ _ _ _ c.in_ok-read_head_line.ensures.ok c.loop.invariant.consumed
