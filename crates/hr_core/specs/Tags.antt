-- The tags that connections tell. (Our own.)
use Rattle.std.specs.Prelude.{List, map, Option}
use Rattle.std.specs.Option.{option_map}
use Rattle.hr_base.specs.declared.number.RegNo.{RegNo}
use Rattle.hr_event.specs.declared.told.Told.{Told}
use Rattle.hr_adapter.specs.Calls.{shown_of}
use Rattle.hr_line.specs.State.{Link, link_at}
use Rattle.hr_promise.specs.Answer.{tag_told}

-- the tags that the registry of a number shows, as answers; none where no connection is to it
abbrev pub told_of : List Link → RegNo → Option (List Told)
told_of links reg = option_map (λ r. map tag_told (shown_of r)) (link_at links reg)
