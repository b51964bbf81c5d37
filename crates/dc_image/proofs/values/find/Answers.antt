use Rattle.std.proofs.Common.{option_map, ap, ◌∙◌}
use Rattle.toml.specs.View.{view, table_view}
use Rattle.toml.specs.Data.{get_member}
use Rattle.toml.proofs.Views.{view_of_ref, view-lookup}
use Rattle.dc_image.proofs.values.find.Goals as goal

pub returns : goal.returns
returns c =
    view_of_ref c.get.result ∙ ap (option_map view) c.get.ensures.value ∙ view-lookup c.as_str.result.now c.args.table.now.entries
    ∙ ap (λ name. get_member name (table_view c.args.table.now)) c.as_str.ensures.text
