-- The laws, proved.
use Rattle.gd_runs.specs.Scanned.{scan_order}
use Rattle.gd_suspended_laws.proofs.Laws.{orders_are}
use Rattle.gd_left_laws.specs.Laws.{ScansGivePages, PagesAreLight, PagesAreBuilt, RunsLower, OrdersPay, StartsArePaid, LinkOrdersPay, RowOrdersPay, IdsLower}
use Rattle.gd_left_laws.proofs.Scans.{run_lowers, order_pays, start_paid}
use Rattle.gd_left_laws.proofs.Orders.{links_pay, rows_pay, rows_all}
use Rattle.gd_left_laws.proofs.Known.{one_found}
use Rattle.gd_left_laws.proofs.Pages.{scan_page, light_page, page_built}

pub scans_give_pages : ScansGivePages
scans_give_pages = scan_page

pub pages_are_light : PagesAreLight
pages_are_light prims written q held asked = light_page prims written q held asked (scan_order prims q) (orders_are prims written q held asked)

pub pages_are_built : PagesAreBuilt
pages_are_built = page_built

pub runs_lower : RunsLower
runs_lower = run_lowers

pub orders_pay : OrdersPay
orders_pay = order_pays

pub starts_are_paid : StartsArePaid
starts_are_paid = start_paid

pub link_orders_pay : LinkOrdersPay
link_orders_pay = links_pay

pub row_orders_pay : RowOrdersPay
row_orders_pay prims q os = (rows_pay prims q os, rows_all prims q os)

pub ids_lower : IdsLower
ids_lower = one_found
