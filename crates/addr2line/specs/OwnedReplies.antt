-- Owned copies of what calls give, as contracts see them.
use Rattle.std.specs.Prelude.{◌≡◌, false, map, option_map, string_bytes, Result}
use Rattle.addr2line_lines.specs.Location.{Location}
use Rattle.addr2line_lines.specs.RangeLocations.{LocatedSpan}
use Rattle.addr2line.specs.Common.{Error, result_map, LookupStop, is_waiting, token_number}
use Rattle.addr2line.specs.declared.reply.OwnedLocation.{OwnedLocation}
use Rattle.addr2line.specs.declared.reply.OwnedSpan.{OwnedSpan}
use Rattle.addr2line.specs.declared.reply.OwnedName.{OwnedName}
use Rattle.addr2line.specs.declared.reply.OwnedFrame.{OwnedFrame}
use Rattle.addr2line.specs.declared.reply.OwnedLoad.{OwnedLoad}
use Rattle.addr2line.specs.declared.reply.FoundUnit.{FoundUnit}
use Rattle.addr2line.specs.declared.reply.Reply.{Reply}
use Rattle.addr2line.specs.declared.reply.Reply.TheVariants as replies
use Rattle.addr2line.specs.Replies.{CopiedFrame, CopiedLoad, CopiedName, CopiedReply, CopiedUnit, Located, Ranged, Framed, Viewed, Listed, Ended, SuspendedAt}

-- a location
abbrev pub as_owned_location : OwnedLocation → Location
as_owned_location l =
    record { file = option_map string_bytes l.file; line = l.line; column = l.column }

-- a row of a range
abbrev pub as_owned_span : OwnedSpan → LocatedSpan
as_owned_span s = record {
  address = s.address;
  length = s.length;
  location = as_owned_location s.location;
}

-- a name
abbrev pub as_owned_name : OwnedName → CopiedName
as_owned_name n = record { name = n.name.items; language = n.language }

-- a frame
abbrev pub as_owned_frame : OwnedFrame → CopiedFrame
as_owned_frame f = record {
  offset = option_map (λ o. o.0) f.dw_die_offset;
  function = option_map as_owned_name f.function;
  location = option_map as_owned_location f.location;
}

-- a unit
abbrev pub as_owned_unit : FoundUnit → CopiedUnit
as_owned_unit u = record { file_type = u.file_type; offset = u.offset.0 }

-- a load
abbrev pub as_owned_load : OwnedLoad → CopiedLoad
as_owned_load l = record {
  unit = token_number l.unit;
  dwo_id = l.dwo_id;
  comp_dir = option_map (λ v. v.items) l.comp_dir;
  path = option_map (λ v. v.items) l.path;
}

-- a reply
abbrev pub as_reply : Reply → CopiedReply
as_reply (replies.Location l) = Located (result_map (option_map as_owned_location) l)
as_reply (replies.Range rows) = Ranged (map (result_map as_owned_span) rows.items)
as_reply (replies.Frames frames) =
    Framed (result_map (λ v. map as_owned_frame v.items) frames)
as_reply (replies.Unit found) = Viewed (option_map as_owned_unit found)
as_reply (replies.Preload loads) = Listed (map as_owned_load loads.items)
as_reply (replies.Done done) = Ended done
as_reply (replies.Suspended unit) = SuspendedAt (token_number unit)

-- a lookup that came to this has ended, with this reply
abbrev pub HasEndedWith : Result LookupStop Error → CopiedReply → Reply → Type 0
HasEndedWith stop reply r = (as_reply r ≡ reply) × (is_waiting stop ≡ false)
