-- The tunnel address of a settled gateway.
use Rattle.std.proofs.Common.{◌≡◌, ℕ, [], Option, Some, is_some, sym, ap, ◌∙◌}
use Rattle.std.specs.Prelude.{IsSome}
use Rattle.std.specs.List.{filter_map, cons_option}
use Rattle.std.specs.Option.{option_and_then}
use Rattle.vtep_base.proofs.NumberLaws.{ipv4_printed_is_read}
use Rattle.vtep_schema.specs.declared.Table.TheVariants.{PhysicalSwitch}
use Rattle.vtep_schema.specs.declared.Column.TheVariants.{SwitchTunnelIps}
use Rattle.vtep_rows.specs.Row.{first}
use Rattle.vtep_rows.specs.Rows.{Rows, row_at}
use Rattle.forward_program.specs.Readings.{own_address, ip_at}
use Rattle.forward_program.proofs.RowsThere.{found_by_id}
use Rattle.vtep_gateway.specs.Settled.{IsSettled}

module _ (r : Rows) (settled : IsSettled r) where
  abbrev address_at : ℕ → Option ℕ
  address_at id = option_and_then (λ row. ip_at row SwitchTunnelIps) (row_at r (PhysicalSwitch, id))

  own_is : own_address r ≡ Some settled.ip
  own_is =
      ap first (sym (found_by_id r PhysicalSwitch (λ e. ip_at e.1 SwitchTunnelIps)))
      ∙ ap (λ ids. first (filter_map address_at ids)) settled.only
      ∙ ap (λ o. first (cons_option (option_and_then (λ row. ip_at row SwitchTunnelIps) o) [])) settled.switch
      ∙ ap (λ o. first (cons_option o [])) (ipv4_printed_is_read settled.ip settled.fits)

  pub has_own : IsSome (own_address r)
  has_own = ap is_some own_is
