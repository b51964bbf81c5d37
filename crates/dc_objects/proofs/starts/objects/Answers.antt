-- The objects are the parts of the start.
use Rattle.dc_objects.proofs.StartWhole.{started_whole}
use Rattle.dc_objects.proofs.starts.objects.Goals as goal

pub returns : goal.returns
returns g c = started_whole c.args.image.now c.args.script.now _ (record {
  cores = cc (c.in_ok-cores_of.ensures, c.of-settings.ensures);
  blocks = c.in_ok-blocks_of.ensures;
  channels = c.in_ok-channels_of.ensures;
  lines = c.in_ok-lines_of.ensures;
  mailboxes = cc (c.in_ok-mailboxes_of.ensures, c.as_slice.ensures);
  consoles = cc (c.in_ok-consoles_of.ensures, c.as_slice-2.ensures);
  script = cc (c.start.ensures, c.of-settings.ensures, c.in_ok-copy_of.ensures, c.of.ensures);
})
